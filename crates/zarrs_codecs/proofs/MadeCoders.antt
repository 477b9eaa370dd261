-- Calls by coders that are made for one call, over handles that never fail.
use Rattle.std.proofs.Common.{◌≡◌, inl, inr, ℕ, Bool, true, false, ◌||◌, List, Option, Some, Result, Ok, Err, OnErr, refl, ap, sym, arith, subst}
use Rattle.zarrs_chunk.specs.Answer.{Answers, AnswersBy, Excused, memory, fault, memory_or_fault, is_fault, seen, ◌>>=◌}
use Rattle.zarrs_chunk.specs.Selection.{Selection}
use Rattle.zarrs_chunk.specs.declared.codec_error.CodecError.{CodecError}
use Rattle.zarrs_data_type.specs.Element.{Chunk}
use Rattle.zarrs_data_type.specs.ElementType.{ElementType}
use Rattle.zarrs_array_bytes.specs.Held.{Held}
use Rattle.zarrs_array_bytes.specs.Validity.{Holds}
use Rattle.zarrs_codec.specs.ArrayWriter.{IsRefusedWrite}
use Rattle.zarrs_codec.specs.BytesToBytesCodec.{BytesCodecs}
use Rattle.zarrs_codec.specs.MemoryHandle.{memory_state}
use Rattle.zarrs_codec.specs.StorageState.{count_if}
use Rattle.zarrs_codec.specs.declared.capabilities.PartialDecoderCapability.{PartialDecoderCapability}
use Rattle.zarrs_codec.specs.declared.memory_handle.MemoryHandle.{MemoryHandle}
use Rattle.zarrs_chain_meaning.specs.ChunkForm.{ChunkForm}
use Rattle.zarrs_chain_meaning.specs.CodecMeaning.{chain_representation}
use Rattle.zarrs_codecs.specs.ChunkRead.{stored_read}
use Rattle.zarrs_codecs.specs.ChunkSource.{Source, source_made}
use Rattle.zarrs_codecs.specs.ChunkWrite.{stored_written}
use Rattle.zarrs_codecs.specs.MadeCoder.{made_read, made_written}

-- a handle that counts no fault didn't fail
pub no_fault : (failed : Bool) → 0 ≡ count_if failed 0 → failed ≡ false
no_fault true h = absurd (omega (arith, h))
no_fault false h = refl

pub excused_less : (a b : Bool) (P : Type 0) → b ≡ false → Excused (a || b) P → Excused a P
excused_less true b P e h = λ m. absurd (cc)
excused_less false true P e h = absurd (cc)
excused_less false false P e h = h

pub passes : {A B : Type 0} (r : Result A CodecError) (a : A) (x : Result B CodecError) → r ≡ Ok a → (r >>= λ _. x) ≡ x
passes (Ok b) a x h = refl
passes (Err e) a x h = absurd (cc)

pub stops : {A B : Type 0} (r : Result A CodecError) (x : Result B CodecError) (e : CodecError) → r ≡ Err e → (r >>= λ _. x) ≡ Err e
stops (Ok a) x e h = absurd (cc)
stops (Err f) x e h = cc

-- ---- reads

without_faults : (type : ElementType) (r : Result Held CodecError) (expected : Result Chunk CodecError) → is_fault r ≡ false → AnswersBy memory_or_fault (Holds type) r expected → AnswersBy memory (Holds type) r expected
without_faults type (Ok held) expected quiet h = h
without_faults type (Err e) expected quiet h = excused_less (memory e) (fault e) (expected ≡ Err e) quiet h

module _ {B : Type 0} (f : BytesCodecs B) (reads : B → PartialDecoderCapability) where
  -- what a decoder of such chunks answers
  pub read_made : (chunk form : ChunkForm B) (stored value : Option (List ℕ)) (selection : Selection) (r : Result Held CodecError) (source : Source) → form ≡ chunk → value ≡ stored → source_made f reads chunk stored ≡ Ok source
      → is_fault r ≡ false → AnswersBy memory_or_fault (Holds form.type) r (stored_read f form value selection) → AnswersBy memory (Holds chunk.type) r (made_read f reads chunk stored selection)
  read_made chunk form stored value selection r source same_form same_value made quiet h =
      let of_chunk : AnswersBy memory_or_fault (Holds chunk.type) r (stored_read f chunk stored selection) =
      subst (λ (v : Option (List ℕ)). AnswersBy memory_or_fault (Holds chunk.type) r (stored_read f chunk v selection)) same_value
      (subst (λ (k : ChunkForm B). AnswersBy memory_or_fault (Holds k.type) r (stored_read f k value selection)) same_form h) in
      subst (λ (y : Result Chunk CodecError). AnswersBy memory (Holds chunk.type) r y)
      (sym (passes (source_made f reads chunk stored) source (stored_read f chunk stored selection) made))
      (without_faults chunk.type r (stored_read f chunk stored selection) quiet of_chunk)

  -- where no decoder is made
  pub read_unmade : (chunk : ChunkForm B) (stored : Option (List ℕ)) (selection : Selection) (e : CodecError) → fault e ≡ false
      → Excused (memory_or_fault e) (source_made f reads chunk stored ≡ Err e) → Excused (memory e) (made_read f reads chunk stored selection ≡ Err e)
  read_unmade chunk stored selection e quiet h = λ wants.
      stops (source_made f reads chunk stored) (stored_read f chunk stored selection) e (excused_less (memory e) (fault e) (source_made f reads chunk stored ≡ Err e) quiet h wants)

-- ---- edits

-- a handle in memory never fails in a rejected write
refused_quiet : (T : Type 0) (r : Result T CodecError) (old new : MemoryHandle) → IsRefusedWrite r (memory_state old) (memory_state new) → is_fault r ≡ false
refused_quiet T r old new (inl h) = no_fault (is_fault r) (ap (λ s. s.faults) h)
refused_quiet T r old new (inr h) = no_fault (is_fault r) (ap (λ s. s.faults) h)

-- nor in any
pub write_quiet : (T : Type 0) (r : Result T CodecError) (old new : MemoryHandle) → OnErr r (IsRefusedWrite r (memory_state old) (memory_state new)) → is_fault r ≡ false
write_quiet T (Ok x) old new h = refl
write_quiet T (Err e) old new h = refused_quiet T (Err e) old new h

left_without_faults : {T V : Type 0} (after : V) (r : Result T CodecError) (expected : Result V CodecError) → is_fault r ≡ false → Answers memory_or_fault (λ _. after) r expected → Answers memory (λ _. after) r expected
left_without_faults after (Ok x) expected quiet h = h
left_without_faults after (Err e) expected quiet h = excused_less (memory e) (fault e) (expected ≡ Err e) quiet h

pub fits : {A B : Type 0} (r : Result A CodecError) (x : Result B CodecError) → seen (λ _. tt {0}) r ≡ Ok tt → (r >>= λ _. x) ≡ x
fits (Ok a) x h = refl
fits (Err e) x h = absurd (cc)

stops_seen : {A : Type 0} (r : Result A CodecError) (x : Result (List ℕ) CodecError) (e : CodecError) → seen (λ _. tt {0}) r ≡ Err e → seen Some (r >>= λ _. x) ≡ Err e
stops_seen (Ok a) x e h = absurd (cc)
stops_seen (Err f) x e h = cc

module _ {B : Type 0} (f : BytesCodecs B) where
  left_by : {T : Type 0} (chunk form : ChunkForm B) (stored value after : Option (List ℕ)) (selection : Selection) (new : Held) (r : Result T CodecError) → form ≡ chunk → value ≡ stored
      → seen (λ _. tt {0}) (chain_representation f chunk.chain chunk.sizes chunk.type chunk.fill) ≡ Ok tt → is_fault r ≡ false
      → Answers memory_or_fault (λ _. after) r (seen Some (stored_written f form value selection new)) → Answers memory (λ _. after) r (seen Some (made_written f chunk stored selection new))
  left_by chunk form stored value after selection new r same_form same_value made quiet h =
      let of_chunk : Answers memory_or_fault (λ _. after) r (seen Some (stored_written f chunk stored selection new)) =
      subst (λ (v : Option (List ℕ)). Answers memory_or_fault (λ _. after) r (seen Some (stored_written f chunk v selection new))) same_value
      (subst (λ (k : ChunkForm B). Answers memory_or_fault (λ _. after) r (seen Some (stored_written f k value selection new))) same_form h) in
      subst (λ (y : Result (List ℕ) CodecError). Answers memory (λ _. after) r (seen Some y))
      (sym (fits (chain_representation f chunk.chain chunk.sizes chunk.type chunk.fill) (stored_written f chunk stored selection new) made))
      (left_without_faults after r (seen Some (stored_written f chunk stored selection new)) quiet of_chunk)

  -- what an encoder of such chunks leaves
  pub written_made : {T : Type 0} (chunk form : ChunkForm B) (stored value after left : Option (List ℕ)) (selection : Selection) (new : Held) (r : Result T CodecError) → form ≡ chunk → value ≡ stored
      → seen (λ _. tt {0}) (chain_representation f chunk.chain chunk.sizes chunk.type chunk.fill) ≡ Ok tt → is_fault r ≡ false
      → Answers memory_or_fault (λ _. left) r (seen Some (stored_written f form value selection new)) → after ≡ left → Answers memory (λ _. after) r (seen Some (made_written f chunk stored selection new))
  written_made chunk form stored value after left selection new r same_form same_value made quiet h same =
      subst (λ (v : Option (List ℕ)). Answers memory (λ _. v) r (seen Some (made_written f chunk stored selection new))) (sym same) (left_by chunk form stored value left selection new r same_form same_value made quiet h)

  -- where no encoder is made
  pub written_unmade : (chunk : ChunkForm B) (stored : Option (List ℕ)) (selection : Selection) (new : Held) (e : CodecError) → Excused (memory e) (seen (λ _. tt {0}) (chain_representation f chunk.chain chunk.sizes chunk.type chunk.fill) ≡ Err e)
      → Excused (memory e) (seen Some (made_written f chunk stored selection new) ≡ Err e)
  written_unmade chunk stored selection new e h = λ wants.
      stops_seen (chain_representation f chunk.chain chunk.sizes chunk.type chunk.fill) (stored_written f chunk stored selection new) e (h wants)
