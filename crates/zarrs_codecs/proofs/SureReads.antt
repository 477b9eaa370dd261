-- Sure bytes and indexers of reads in part.
use Rattle.std.proofs.Common.{◌≡◌, ◌&&◌, ℕ, Bool, true, false, if◌then◌else◌, Option, Some, None, List, [], Result, Ok, Err, IfOk, refl, ap}
use Rattle.std.specs.Prelude.{IfErr, IfSome}
use Rattle.zarrs_chunk.specs.Answer.{◌>>=◌, memory}
use Rattle.zarrs_chunk.specs.Selection.{Selection, bounds_of}
use Rattle.zarrs_chunk.specs.declared.codec_error.CodecError.{CodecError}
use Rattle.zarrs_data_type.specs.ElementType.{ElementType}
use Rattle.zarrs_codec.specs.BytesToBytesCodec.{BytesCodecs}
use Rattle.zarrs_codec.specs.StorageState.{are_sure, StorageState}
use Rattle.zarrs_codec.specs.declared.bytes_representation.BytesRepresentation.{BytesRepresentation}
use Rattle.zarrs_array_to_array.specs.ArrayToArrayCodec.{ArrayMapping}
use Rattle.zarrs_chain_meaning.specs.Chain.{codec_reads, taken_form}
use Rattle.zarrs_codecs.specs.CodecPart.{rests_where}
use Rattle.zarrs_codecs.specs.ChunkRead.{are_given_sure, are_asked_sure, asks_in_part, encoded_places, read_rests_on, reads_surely, WhereSureBy, read_rests_where}
use Rattle.zarrs_chain_meaning.specs.ChunkForm.{ChunkForm}
use Rattle.zarrs_codecs.specs.vlen.VlenPartialDecoder.{CodecForm, CodecWhereSure, codec_reads_surely, codec_selection_rests_on}
use Rattle.zarrs_bytes.proofs.Coding.{ok}
use Rattle.zarrs_chain_meaning.proofs.ArraySteps.{error_is}

-- ---- sure bytes

sure_if : (sure : Option (ℕ → Bool)) (P : Type 0) (r : Result (List ℕ) CodecError) (b : Bool) → (b ≡ true → IfOk r (λ numbers. are_sure sure numbers ≡ true → P)) → IfOk (r >>= λ numbers. ok (if b then Some numbers else None)) (λ plan. IfSome plan (λ numbers. are_sure sure numbers ≡ true → P))
sure_if sure P (Ok numbers) true h = h refl
sure_if sure P (Ok numbers) false h = tt
sure_if sure P (Err e) b h = tt

pub where_sure : {B : Type 0} (known : Bool) (f : BytesCodecs B) (form : ChunkForm B) (before : StorageState) (selection : Selection) (P : Type 0) (encoded : List ℕ) (r : BytesRepresentation) (places : List ℕ) → encoded_places form.type form.chain.array_to_array form.sizes selection ≡ Ok places → taken_form f form.chain form.sizes form.type form.fill ≡ Ok (encoded, r)
    → (asks_in_part form.chain.bytes_to_bytes form.chain.array_to_bytes ≡ true → IfOk (rests_where known f form.chain.array_to_bytes encoded form.type form.fill before.value places) (λ numbers. are_sure before.sure numbers ≡ true → P)) → WhereSureBy known f form before selection P
where_sure known f form before selection P encoded r places a b h = rw (a, b) (sure_if before.sure P (rests_where known f form.chain.array_to_bytes encoded form.type form.fill before.value places) (asks_in_part form.chain.bytes_to_bytes form.chain.array_to_bytes) h)

anyway : (sure : Option (ℕ → Bool)) (P : Type 0) (r : Result (Option (List ℕ)) CodecError) → P → IfOk r (λ plan. IfSome plan (λ numbers. are_sure sure numbers ≡ true → P))
anyway sure P (Ok (Some numbers)) h = λ s. h
anyway sure P (Ok None) h = tt
anyway sure P (Err e) h = tt

-- what holds anyway holds where bytes are sure
pub sure_anyway : {B : Type 0} (known : Bool) (f : BytesCodecs B) (form : ChunkForm B) (before : StorageState) (selection : Selection) (P : Type 0) → P → WhereSureBy known f form before selection P
sure_anyway known f form before selection P h = anyway before.sure P (read_rests_where known f form before.value selection) h

surely_by : (sure : Option (ℕ → Bool)) (P : Type 0) (r : Result (Option (List ℕ)) CodecError) → IfOk r (λ asked. IfSome asked (λ numbers. are_sure sure numbers ≡ true → P)) → are_asked_sure sure r ≡ true → P
surely_by sure P (Ok (Some numbers)) h e = h e
surely_by sure P (Ok None) h e = absurd cc
surely_by sure P (Err x) h e = absurd cc

-- what holds where bytes are sure, or with a cache, holds where a read never fails
pub surely : {B : Type 0} (f : BytesCodecs B) (form : ChunkForm B) (before : StorageState) (selection : Selection) (P : Type 0) (cached : Bool) → (cached ≡ true → P) → WhereSureBy false f form before selection P → reads_surely cached f form before.value before.sure selection ≡ true → P
surely f form before selection P true by_cache here e = by_cache refl
surely f form before selection P false by_cache here e = surely_by before.sure P (read_rests_on f form before.value selection) here e

pub given_surely : (sure : Option (ℕ → Bool)) (P : Type 0) (r : Result (List ℕ) CodecError) → IfOk r (λ numbers. are_sure sure numbers ≡ true → P) → are_given_sure sure r ≡ true → P
given_surely sure P (Ok numbers) h e = h e
given_surely sure P (Err x) h e = absurd cc

in_part_surely : (sure : Option (ℕ → Bool)) (P : Type 0) (r : Result (List ℕ) CodecError) (b : Bool) → (b ≡ true → IfOk r (λ numbers. are_sure sure numbers ≡ true → P)) → (b && are_given_sure sure r) ≡ true → P
in_part_surely sure P r true h e = given_surely sure P r (h refl) e
in_part_surely sure P r false h e = absurd cc

-- the same of a `vlen`
pub codec_surely : {B : Type 0} (f : BytesCodecs B) (form : CodecForm B) (before : StorageState) (selection : Selection) (P : Type 0) → CodecWhereSure f form before selection P → codec_reads_surely f form before.value before.sure selection ≡ true → P
codec_surely f form before selection P h = in_part_surely before.sure P (codec_selection_rests_on f form before.value selection) (codec_reads form.codec).partial_decode h

-- ---- indexers

bound_ok : (b : Result (Unit {0}) CodecError) (rest : Unit {0} → Result (List ℕ) CodecError) (next : List ℕ → Result (List ℕ) CodecError) (places : List ℕ) (Q : CodecError → Type 0) → ((b >>= rest) >>= next) ≡ Ok places → IfErr b Q
bound_ok (Ok u) rest next places Q e = tt
bound_ok (Err x) rest next places Q e = absurd cc

-- an indexer whose places are answered is in bounds
pub in_bounds : (type : ElementType) (arrays : List ArrayMapping) (sizes : List ℕ) (selection : Selection) (places : List ℕ) (Q : CodecError → Type 0) → encoded_places type arrays sizes selection ≡ Ok places → IfErr (bounds_of selection sizes) Q
in_bounds type arrays sizes selection places Q e = bound_ok (bounds_of selection sizes) _ _ places Q e

bound_err : (V : Type 0) (b : Result (Unit {0}) CodecError) (rest : Unit {0} → Result (List ℕ) CodecError) (next : List ℕ → Result (List ℕ) CodecError) (error : CodecError) → (memory error ≡ false → ((b >>= rest) >>= next) ≡ Err error)
    → IfErr b (λ cause. memory error ≡ false → ◌≡◌ {A = Result V CodecError} (Err cause) (Err error))
bound_err V (Ok u) rest next error h = tt
bound_err V (Err cause) rest next error h = λ m. ap (λ (x : CodecError). let r : Result V CodecError = Err x in r) (error_is {A = List ℕ} [] cause error (h m))

-- the bounds' error is the first
pub out_of_bounds : (V : Type 0) (type : ElementType) (arrays : List ArrayMapping) (sizes : List ℕ) (selection : Selection) (error : CodecError) → (memory error ≡ false → encoded_places type arrays sizes selection ≡ Err error)
    → IfErr (bounds_of selection sizes) (λ cause. memory error ≡ false → ◌≡◌ {A = Result V CodecError} (Err cause) (Err error))
out_of_bounds V type arrays sizes selection error h = bound_err V (bounds_of selection sizes) _ _ error h
