-- What a run of edits leaves of a handle.
use Rattle.std.proofs.Common.{◌≡◌, inl, inr, ℕ, zero, suc, ◌+◌, ◌%◌, ◌^◌, true, Result, Err, add-one, arith, refl, ap, sym, ◌∙◌, subst}
use Rattle.zarrs_chunk.specs.declared.codec_error.CodecError.{CodecError}
use Rattle.zarrs_codec.specs.ArrayWriter.{IsRefusedWrite}
use Rattle.zarrs_codec.specs.Calls.{count_more}
use Rattle.zarrs_codec.specs.StorageState.{StorageState, after_writing, apart_from_value, count_if}
use Rattle.zarrs_codecs.specs.Edits.{after_edits}
use Rattle.zarrs_bytes.proofs.ByteRuns.{ready}

abbrev refused : CodecError → Result (Unit {0}) CodecError
refused e = Err e

one_more : (n count : ℕ) → count_if true (count_more n count) ≡ count_more (suc n) count
one_more zero count = refl
one_more (suc n) count = one_more n (count_if true count)

-- one accepted edit more
pub left_more : (n : ℕ) (old mid new : StorageState) → mid ≡ after_edits n mid.value old → apart_from_value new ≡ after_writing ready mid → new ≡ after_edits (n + 1) new.value old
left_more n old mid new left one =
    let counted : record (after_writing ready (after_edits n mid.value old)) { value = new.value } ≡ after_edits (suc n) new.value old = λ i. record old { value = new.value; writes = one_more n old.writes i; accepted_writes = one_more n old.accepted_writes i } in
    ap (λ (s : StorageState). record s { value = new.value }) one
    ∙ ap (λ (s : StorageState). record (after_writing ready s) { value = new.value }) left
    ∙ counted
    ∙ ap (λ (k : ℕ). after_edits k new.value old) (sym (add-one n))

-- a rejected edit behind so many accepted ones
pub refused_left : (n : ℕ) (old mid new : StorageState) (e : CodecError) → mid ≡ after_edits n mid.value old → IsRefusedWrite (refused e) mid new → IsRefusedWrite (refused e) (after_edits n mid.value old) new
refused_left n old mid new e left h = subst (λ (s : StorageState). IsRefusedWrite (refused e) s new) left h

counts : (w : ℕ) → (w + 1) % 2 ^ 64 ≡ w → ⊥
counts w e = omega (arith, e)

-- one that made no writing call left the value
pub unwritten_left : (n : ℕ) (old mid new : StorageState) (e : CodecError) → mid ≡ after_edits n mid.value old → IsRefusedWrite (refused e) mid new → new.writes ≡ count_more n old.writes → new.value ≡ mid.value
unwritten_left n old mid new e left (inl h) w = ap (λ (s : StorageState). s.value) h
unwritten_left n old mid new e left (inr h) w =
    let one : new.writes ≡ count_if true mid.writes = ap (λ (s : StorageState). s.writes) h in
    let was : mid.writes ≡ count_more n old.writes = ap (λ (s : StorageState). s.writes) left in
    absurd (counts mid.writes (sym one ∙ w ∙ sym was))

-- a writing call that failed behind so many accepted edits is one writing call more
pub failed_writes : (n : ℕ) (old mid new : StorageState) (e : CodecError) → mid ≡ after_edits n mid.value old → apart_from_value new ≡ after_writing (refused e) mid → new.writes ≡ count_more (n + 1) old.writes
failed_writes n old mid new e left failed =
    let one : new.writes ≡ count_if true mid.writes = ap (λ (s : StorageState). s.writes) failed in
    let was : mid.writes ≡ count_more n old.writes = ap (λ (s : StorageState). s.writes) left in
    one ∙ ap (λ (k : ℕ). count_if true k) was ∙ one_more n old.writes ∙ ap (λ (k : ℕ). count_more k old.writes) (sym (add-one n))
