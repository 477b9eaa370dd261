-- Reads by the whole chunk, and readers without a cache.
use Rattle.std.proofs.Common.{◌≡◌, ℕ, ◌^◌, nat_lt, if◌then◌else◌, Bool, true, false, Option, Some, None, List, length, map, Result, Ok, Err, refl, ap, sym, ◌∙◌, subst}
use Rattle.zarrs_chunk.specs.Answer.{◌>>=◌, checked_u64, seen, AnswersBy, fault, memory, memory_or_fault}
use Rattle.zarrs_chunk.specs.ChunkShape.{product}
use Rattle.zarrs_chunk.specs.declared.codec_error.CodecError.{CodecError}
use Rattle.zarrs_chunk.specs.declared.codec_error.CodecError.TheVariants.{Overflow}
use Rattle.zarrs_data_type.specs.Element.{Chunk, fill_element}
use Rattle.zarrs_data_type.specs.ElementType.{ElementType}
use Rattle.zarrs_array_bytes.specs.Chunks.{chunk_at}
use Rattle.zarrs_array_bytes.specs.Elements.{elements, select}
use Rattle.zarrs_array_bytes.specs.Held.{Held}
use Rattle.zarrs_array_bytes.specs.Validity.{Holds, validity}
use Rattle.zarrs_codec.specs.BytesToBytesCodec.{BytesCodecs}
use Rattle.zarrs_codec.specs.declared.bytes_representation.BytesRepresentation.{BytesRepresentation}
use Rattle.zarrs_chain_meaning.specs.BytesStages.{outer_bytes}
use Rattle.zarrs_chain_meaning.specs.Chain.{codec_reads, taken_form}
use Rattle.zarrs_codecs.specs.ChunkRead.{outer_stored}
use Rattle.zarrs_chain_meaning.specs.ChunkForm.{ChunkForm}
use Rattle.zarrs_codecs.specs.CodecPart.{codec_read}
use Rattle.zarrs_codecs.specs.ChunkSource.{Source, bytes_above, is_cache, kept_stage, opened_chunk, source_at, source_made_at, source_of, source_places}
use Rattle.zarrs_chain_meaning.specs.CodecMeaning.{PlainCodec, PlainChain, codec_chunk}
use Rattle.zarrs_codecs.specs.declared.partial_decoder.cache.Cache.{Cache}
use Rattle.zarrs_codecs.specs.declared.partial_decoder.cache.Cache.TheVariants as kept
use Rattle.zarrs_codecs.specs.declared.partial_decoder.cache.CacheStage.{CacheStage}
use Rattle.zarrs_bytes.proofs.Coding.{ok}
use Rattle.zarrs_codecs.proofs.LawfulPart.{part_laws}
use Rattle.zarrs_codecs.proofs.PartialReads.{take_codecs}
use Rattle.zarrs_array_to_array.proofs.Stages.{first_false}
use Rattle.zarrs_data_type.specs.Form.{form_of}

-- a count that 64 bits hold is the number itself
pub count_so : (n m : ℕ) → ◌≡◌ {A = Result ℕ CodecError} (Ok m) (checked_u64 n) → m ≡ n
count_so n m e = by_test (nat_lt n (2 ^ 64)) e
  where
    by_test : (b : Bool) → ◌≡◌ {A = Result ℕ CodecError} (Ok m) (if b then Ok n else Err Overflow) → m ≡ n
    by_test true h = cc
    by_test false h = absurd cc

-- a cache that was filled at a stage
pub filled_from : {B : Type 0} (f : BytesCodecs B) (form : ChunkForm B) (encoded : List ℕ) (r : BytesRepresentation) (s kept_at : CacheStage) (stored : Option (List ℕ)) (source : Source) → taken_form f form.chain form.sizes form.type form.fill ≡ Ok (encoded, r) → kept_at ≡ s
    → source_at f form.chain encoded form.type form.fill r s stored ≡ Ok source → source_made_at f form kept_at stored ≡ Ok source
filled_from f form encoded r s kept_at stored source t k e = rw (t, k) e

-- without a cache there is nothing to fill
pub uncached_filled : {B : Type 0} (f : BytesCodecs B) (form : ChunkForm B) (encoded : List ℕ) (r : BytesRepresentation) (cache : Cache) (stored : Option (List ℕ)) → taken_form f form.chain form.sizes form.type form.fill ≡ Ok (encoded, r) → is_cache cache ≡ false
    → source_made_at f form (kept_stage cache) stored ≡ Ok (source_of form.type (product encoded) (length form.chain.bytes_to_bytes) stored cache)
uncached_filled f form encoded r kept.Handle stored e u = rw e refl
uncached_filled f form encoded r (kept.Index index) stored e u = rw e refl
uncached_filled f form encoded r (kept.Bytes below value) stored e u = absurd cc
uncached_filled f form encoded r (kept.Chunk held) stored e u = absurd cc

-- ---- codecs that read no part

selected_of : (d : Result Chunk CodecError) (places : List ℕ) → (d >>= λ chunk. ok (select chunk places)) ≡ seen (λ chunk. select chunk places) d
selected_of (Ok chunk) places = refl
selected_of (Err e) places = refl

read_of : {B : Type 0} (f : BytesCodecs B) (codec : PlainCodec B) (encoded : List ℕ) (type : ElementType) (fill : List ℕ) (o : Result (List ℕ) CodecError) (places : List ℕ) → (codec_reads codec).partial_decode ≡ false
    → (seen (λ b. Some b) o >>= λ below. codec_read f codec encoded type fill below places) ≡ seen (λ chunk. select chunk places) (o >>= codec_chunk f codec encoded type fill)
read_of f codec encoded type fill (Ok bytes) places e = (part_laws codec).wholly f encoded type fill (Some bytes) places e ∙ selected_of (codec_chunk f codec encoded type fill bytes) places
read_of f codec encoded type fill (Err x) places e = refl

-- of a stored value, what a codec that reads no part reads is selected of the whole chunk
pub whole_places : {B : Type 0} (f : BytesCodecs B) (chain : PlainChain B) (encoded : List ℕ) (type : ElementType) (fill : List ℕ) (r : BytesRepresentation) (value places : List ℕ) → (codec_reads chain.array_to_bytes).partial_decode ≡ false
    → source_places f chain encoded type fill r (bytes_above (length chain.bytes_to_bytes) (Some value)) places ≡ seen (λ chunk. select chunk places) (opened_chunk f chain (form_of encoded type fill) r value)
whole_places {B} f chain encoded type fill r value places e =
    ap (λ (bs : List B). outer_stored f bs r (Some value) >>= λ below. codec_read f chain.array_to_bytes encoded type fill below places) (take_codecs chain.bytes_to_bytes)
    ∙ read_of f chain.array_to_bytes encoded type fill (outer_bytes f chain.bytes_to_bytes r value) places e

-- the elements at places of a chunk that was read
pub chunk_at_runs : {B : Type 0} (f : BytesCodecs B) (chain : PlainChain B) (encoded : List ℕ) (type : ElementType) (fill : List ℕ) (r : BytesRepresentation) (value : List ℕ) (held : Held) (places : List ℕ) (count : ℕ) (result : Result Held CodecError)
    → opened_chunk f chain (form_of encoded type fill) r value ≡ ok (elements type (product encoded) held) → validity type (product encoded) held ≡ Ok tt → count ≡ product encoded
    → AnswersBy memory (Holds type) result (chunk_at type count places held) → AnswersBy memory (Holds type) result (seen (λ chunk. select chunk places) (opened_chunk f chain (form_of encoded type fill) r value))
chunk_at_runs f chain encoded type fill r value held places count result opened valid same h =
    let is : chunk_at type count places held ≡ seen (λ chunk. select chunk places) (opened_chunk f chain (form_of encoded type fill) r value) = rw (same, valid, opened) refl in
    subst (λ (x : Result Chunk CodecError). AnswersBy memory (Holds type) result x) is h

-- a call that never fails, as an answer of one that may
pub fails_too : {T V : Type 0} (R : T → V → Type 0) (r : Result T CodecError) (expected : Result V CodecError) → AnswersBy memory R r expected → AnswersBy memory_or_fault R r expected
fails_too R (Ok x) expected h = h
fails_too R (Err e) expected h = λ m. h (first_false (memory e) (fault e) m)

-- what a codec that reads no part reads of what is stored
pub whole_answer : {B : Type 0} (f : BytesCodecs B) (chain : PlainChain B) (encoded : List ℕ) (type : ElementType) (fill : List ℕ) (r : BytesRepresentation) (stored : Option (List ℕ)) (value places : List ℕ) (result : Result Held CodecError) → (codec_reads chain.array_to_bytes).partial_decode ≡ false
    → stored ≡ Some value → AnswersBy memory (Holds type) result (seen (λ chunk. select chunk places) (opened_chunk f chain (form_of encoded type fill) r value))
    → AnswersBy memory_or_fault (Holds type) result (source_places f chain encoded type fill r (bytes_above (length chain.bytes_to_bytes) stored) places)
whole_answer f chain encoded type fill r stored value places result whole is h =
    let same : source_places f chain encoded type fill r (bytes_above (length chain.bytes_to_bytes) stored) places ≡ seen (λ chunk. select chunk places) (opened_chunk f chain (form_of encoded type fill) r value)
    = ap (λ (s : Option (List ℕ)). source_places f chain encoded type fill r (bytes_above (length chain.bytes_to_bytes) s) places) is ∙ whole_places f chain encoded type fill r value places whole in
    subst (λ (x : Result Chunk CodecError). AnswersBy memory_or_fault (Holds type) result x) (sym same) (fails_too (Holds type) result (seen (λ chunk. select chunk places) (opened_chunk f chain (form_of encoded type fill) r value)) h)

-- where nothing is stored, it reads fill elements
pub none_answer : {B : Type 0} (f : BytesCodecs B) (chain : PlainChain B) (encoded : List ℕ) (type : ElementType) (fill : List ℕ) (r : BytesRepresentation) (stored : Option (List ℕ)) (places : List ℕ) (result : Result Held CodecError) → (codec_reads chain.array_to_bytes).partial_decode ≡ false
    → stored ≡ None → AnswersBy memory (Holds type) result (ok (map (λ _. fill_element type fill) places))
    → AnswersBy memory_or_fault (Holds type) result (source_places f chain encoded type fill r (bytes_above (length chain.bytes_to_bytes) stored) places)
none_answer f chain encoded type fill r stored places result whole is h =
    let same : source_places f chain encoded type fill r (bytes_above (length chain.bytes_to_bytes) stored) places ≡ ok (map (λ _. fill_element type fill) places)
    = ap (λ (s : Option (List ℕ)). source_places f chain encoded type fill r (bytes_above (length chain.bytes_to_bytes) s) places) is ∙ (part_laws chain.array_to_bytes).wholly f encoded type fill None places whole in
    subst (λ (x : Result Chunk CodecError). AnswersBy memory_or_fault (Holds type) result x) (sym same) (fails_too (Holds type) result (ok (map (λ _. fill_element type fill) places)) h)
