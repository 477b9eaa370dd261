-- Reads of a value of which pieces are at hand.
use Rattle.std.proofs.Common.{◌≡◌, ℕ, zero, suc, ◌<◌, ◌≤◌, nat_lt, Bool, true, false, Option, Some, List, [], ◌∷◌, length, slice_index, get_or, Result, Ok, Err, refl, ap, sym, ◌∙◌, subst, arith}
use Rattle.std.specs.List.{All}
use Rattle.std.proofs.lemmas.Bool.Decides.{nat_tests}
use Rattle.std.proofs.lemmas.List.FromFn.{get_or-map-range_with_len, length-map-range_with_len}
use Rattle.zarrs_chunk.specs.Answer.{AnswersBy, Excused, memory_or_fault, ◌>>=◌}
use Rattle.zarrs_chunk.specs.Selection.{Selection}
use Rattle.zarrs_chunk.specs.declared.codec_error.CodecError.{CodecError}
use Rattle.zarrs_data_type.specs.Element.{Chunk}
use Rattle.zarrs_array_bytes.specs.Held.{Held}
use Rattle.zarrs_array_bytes.specs.Validity.{Holds}
use Rattle.zarrs_json.specs.KnownBytesCodec.{known_codecs, known_reads}
use Rattle.zarrs_codec.specs.StorageState.{StorageState}
use Rattle.zarrs_codec.specs.declared.bytes_representation.BytesRepresentation.{BytesRepresentation}
use Rattle.zarrs_chain_meaning.specs.Chain.{taken_form}
use Rattle.zarrs_bytes.proofs.Coding.{ok}
use Rattle.zarrs_codecs.specs.ChunkRead.{asks_in_part, stored_read}
use Rattle.zarrs_codecs.specs.ChunkSource.{Source, bytes_above, source_made, source_made_at}
use Rattle.zarrs_codecs.proofs.CachePlaces.{no_place, no_stage}
use Rattle.zarrs_lent_handles.specs.PiecesHandle.{made_around}
use Rattle.zarrs_lent_handles.specs.Pieces.{PlainPiece, HasPieces, are_apart, are_at_hand, byte_around, is_at_hand, value_around}
use Rattle.zarrs_lent_handles.proofs.ElsewhereLemmas.{with_piece}
use Rattle.zarrs_codecs.specs.PlannedReads.{ArePlanned}
use Rattle.zarrs_codecs.proofs.PlannedAlike.{planned_is_asked, sized_alike}
use Rattle.zarrs_codecs.proofs.SizedAlike.{passes_at}
use Rattle.zarrs_c_calls.specs.Reads.{form_read}
use Rattle.zarrs_json.specs.Header.{HeaderForm}
use Rattle.zarrs_codecs.proofs.MadeCoders.{passes, stops}

-- ---- the bytes at hand

past : (xs : List ℕ) (n : ℕ) → length xs ≤ n → get_or xs n 0 ≡ 0
past [] n l = refl
past (x ∷ xs) zero l = absurd (omega (arith, l))
past (x ∷ xs) (suc n) l = past xs n (omega (arith, l))

-- values that have the pieces are the same at each byte at hand
same_at : (elsewhere : ℕ → ℕ) (len n : ℕ) (ps : List PlainPiece) (value : List ℕ) → HasPieces len ps value → is_at_hand ps n ≡ true → get_or value n 0 ≡ get_or (value_around elsewhere len ps) n 0
same_at elsewhere len n ps value has here = by (nat_lt n len) refl
  where
    by : (t : Bool) → nat_lt n len ≡ t → get_or value n 0 ≡ get_or (value_around elsewhere len ps) n 0
    by true e =
        let l : n < len = grind (arith, nat_tests) in
        has.same n here ∙ sym (with_piece elsewhere ps n here) ∙ sym (get_or-map-range_with_len (byte_around elsewhere ps) 0 len n n 0 l (omega arith))
    by false e =
        let l : len ≤ n = grind (arith, nat_tests) in
        past value n (omega (arith, has.length_is, l)) ∙ sym (past (value_around elsewhere len ps) n (omega (arith, length-map-range_with_len (byte_around elsewhere ps) 0 len, l)))

agree : (elsewhere : ℕ → ℕ) (len : ℕ) (ps : List PlainPiece) (value planned : List ℕ) → HasPieces len ps value → are_at_hand ps planned ≡ true → All (λ n. slice_index value n ≡ slice_index (value_around elsewhere len ps) n) planned
agree elsewhere len ps value planned has hand = λ k d l. same_at elsewhere len (get_or planned k d) ps value has (passes_at (is_at_hand ps) planned k d hand l)

-- ---- reads by a decoder that is made for them

by_taken : (f : HeaderForm) (stored : Option (List ℕ)) (x : Result Chunk CodecError) (t : Result (List ℕ × BytesRepresentation) CodecError)
    → ((t >>= λ _. ok (bytes_above (length f.chain.bytes_to_bytes) stored)) >>= λ _. x) ≡ (t >>= λ _. x)
by_taken f stored x (Ok taken) = refl
by_taken f stored x (Err e) = refl

-- without a cache the construction fails only where the chain rejects the chunk
uncached : (f : HeaderForm) (stored : Option (List ℕ)) (x : Result Chunk CodecError) → asks_in_part f.chain.bytes_to_bytes f.chain.array_to_bytes ≡ true
    → (source_made known_codecs known_reads f stored >>= λ _. x) ≡ (taken_form known_codecs f.chain f.sizes f.type f.fill >>= λ _. x)
uncached f stored x asks =
    ap (λ s. source_made_at known_codecs f s stored >>= λ _. x) (no_stage known_reads f.chain (no_place known_reads f.chain asks))
    ∙ by_taken f stored x (taken_form known_codecs f.chain f.sizes f.type f.fill)

-- values that have the pieces are read alike, where the planned bytes are at hand
pub parts_alike : (elsewhere : ℕ → ℕ) (f : HeaderForm) (len : ℕ) (ps : List PlainPiece) (value planned : List ℕ) (selection : Selection) → ArePlanned known_codecs f selection planned → HasPieces len ps value → are_at_hand ps planned ≡ true
    → form_read f (Some (value_around elsewhere len ps)) selection ≡ form_read f (Some value) selection
parts_alike elsewhere f len ps value planned selection are has hand =
    let asks = planned_is_asked known_codecs f (Some value) selection planned are in
    let other : List ℕ = value_around elsewhere len ps in
    let long : length value ≡ length other = omega (arith, has.length_is, length-map-range_with_len (byte_around elsewhere ps) 0 len) in
    let same = sized_alike known_codecs f value other selection planned are long (agree elsewhere len ps value planned has hand) in
    uncached f (Some other) (stored_read known_codecs f (Some other) selection) asks.in_part
    ∙ ap (λ (x : Result Chunk CodecError). taken_form known_codecs f.chain f.sizes f.type f.fill >>= λ _. x) (sym same)
    ∙ sym (uncached f (Some value) (stored_read known_codecs f (Some value) selection) asks.in_part)

-- ---- a decoder over pieces

-- what it answers
pub part_answered : (chunk form : HeaderForm) (stored value : Option (List ℕ)) (selection : Selection) (r : Result Held CodecError) (source : Source) → form ≡ chunk → value ≡ stored → source_made known_codecs known_reads chunk stored ≡ Ok source
    → AnswersBy memory_or_fault (Holds form.type) r (stored_read known_codecs form value selection) → AnswersBy memory_or_fault (Holds chunk.type) r (form_read chunk stored selection)
part_answered chunk form stored value selection r source same_form same_value made h =
    let of_chunk : AnswersBy memory_or_fault (Holds chunk.type) r (stored_read known_codecs chunk stored selection) =
    subst (λ (v : Option (List ℕ)). AnswersBy memory_or_fault (Holds chunk.type) r (stored_read known_codecs chunk v selection)) same_value
    (subst (λ (f : HeaderForm). AnswersBy memory_or_fault (Holds f.type) r (stored_read known_codecs f value selection)) same_form h) in
    subst (λ (y : Result Chunk CodecError). AnswersBy memory_or_fault (Holds chunk.type) r y)
    (sym (passes (source_made known_codecs known_reads chunk stored) source (stored_read known_codecs chunk stored selection) made)) of_chunk

-- where none is made
pub part_stopped : (chunk : HeaderForm) (stored : Option (List ℕ)) (selection : Selection) (e : CodecError) → Excused (memory_or_fault e) (source_made known_codecs known_reads chunk stored ≡ Err e)
    → Excused (memory_or_fault e) (form_read chunk stored selection ≡ Err e)
part_stopped chunk stored selection e h = λ wants. stops (source_made known_codecs known_reads chunk stored) (stored_read known_codecs chunk stored selection) e (h wants)

-- ---- the handle that is made

pub record IsMade (elsewhere : ℕ → ℕ) (len : ℕ) (ps : List PlainPiece) (state : StorageState) : Type 0 where
  pub stand_apart : are_apart len 0 ps ≡ true
  pub value_is : state.value ≡ Some (value_around elsewhere len ps)
  pub sure_is : state.sure ≡ Some (is_at_hand ps)

pub made_is : (elsewhere : ℕ → ℕ) (len : ℕ) (ps : List PlainPiece) (state : StorageState) → Ok state ≡ made_around elsewhere len ps → IsMade elsewhere len ps state
made_is elsewhere len ps state e = by (are_apart len 0 ps) refl
  where
    by : (t : Bool) → are_apart len 0 ps ≡ t → IsMade elsewhere len ps state
    by true f =
        let is : Ok state ≡ made_around elsewhere len ps = e in
        let g = rw f at is in
        record { stand_apart = f; value_is = cc; sure_is = cc }
    by false f =
        let is : Ok state ≡ made_around elsewhere len ps = e in
        let g = rw f at is in
        absurd (cc)
