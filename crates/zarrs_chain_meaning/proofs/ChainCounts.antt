-- How many elements chains take and read.
use Rattle.std.proofs.Common.{◌≡◌, ℕ, List, length, Result, Ok, IfOk, ap, sym, subst, ◌∙◌}
use Rattle.zarrs_chunk.specs.Answer.{seen, checked_u64, AnswersBy, memory}
use Rattle.zarrs_chunk.specs.ChunkShape.{product}
use Rattle.zarrs_chunk.specs.declared.codec_error.CodecError.{CodecError}
use Rattle.zarrs_data_type.specs.ElementType.{ElementType}
use Rattle.zarrs_data_type.specs.Element.{Chunk}
use Rattle.zarrs_array_to_array.specs.ArrayToArrayCodec.{ArrayMapping}
use Rattle.zarrs_array_bytes.specs.Elements.{elements}
use Rattle.zarrs_array_bytes.specs.Held.{Held}
use Rattle.zarrs_array_bytes.specs.Validity.{validity, Holds}
use Rattle.zarrs_codec.specs.BytesToBytesCodec.{BytesCodecs}
use Rattle.zarrs_codec.specs.CoordinateMap.{CoordinateMap, IsCoordinateMap, moved_chunk, inverse_map}
use Rattle.zarrs_codec.specs.MappedChunk.{decoded_chunk}
use Rattle.zarrs_codec.specs.declared.bytes_representation.BytesRepresentation.{BytesRepresentation}
use Rattle.zarrs_chain_meaning.specs.ArrayStages.{arrays_map, IsMapWhere}
use Rattle.zarrs_chain_meaning.specs.BytesStages.{outer_bytes}
use Rattle.zarrs_chain_meaning.specs.Chain.{taken_form}
use Rattle.zarrs_chain_meaning.specs.CodecMeaning.{PlainCodec, PlainChain, codec_representation, codec_chunk, chain_chunk}
use Rattle.zarrs_bytes.proofs.Coding.{ok}
use Rattle.zarrs_chain_meaning.proofs.ArraySteps.{at_ok}
use Rattle.zarrs_chain_meaning.proofs.ChainSteps.{IsTaken, seen_ok, is_taken, two_ok, chunk_through, held_chunk}
use Rattle.zarrs_chain_meaning.proofs.CodecLaws.{codec_counted, chunk_count}

-- and of one that a chain takes
pub chain_counted : {B : Type 0} (f : BytesCodecs B) (arrays : List ArrayMapping) (codec : PlainCodec B) (outer : List B) (sizes : List ℕ) (type : ElementType) (fill : List ℕ) (form : List ℕ × BytesRepresentation)
    → IsMapWhere type arrays sizes → taken_form f (record { array_to_array = arrays; array_to_bytes = codec; bytes_to_bytes = outer }) sizes type fill ≡ Ok form → checked_u64 (product sizes) ≡ Ok (product sizes)
chain_counted f arrays codec outer sizes type fill form maps e =
    let t = is_taken f (record { array_to_array = arrays; array_to_bytes = codec; bytes_to_bytes = outer }) sizes type fill form e in
    let m = at_ok (arrays_map type arrays sizes) (λ (m : CoordinateMap). IsCoordinateMap sizes m) t.map_is t.mapped maps in
    subst (λ (k : ℕ). checked_u64 k ≡ Ok k) m.count (codec_counted f codec t.map_is.encoded type fill form.1 t.measured)

-- the same, by the sizes that the array-to-array codecs make
pub form_counted : {B : Type 0} (f : BytesCodecs B) (arrays : List ArrayMapping) (codec : PlainCodec B) (sizes : List ℕ) (type : ElementType) (fill encoded : List ℕ) (r : BytesRepresentation)
    → IsMapWhere type arrays sizes → seen (λ (m : CoordinateMap). m.encoded) (arrays_map type arrays sizes) ≡ Ok encoded → codec_representation f codec encoded type fill ≡ Ok r → checked_u64 (product sizes) ≡ Ok (product sizes)
form_counted f arrays codec sizes type fill encoded r maps e measured =
    let a = seen_ok (λ (m : CoordinateMap). m.encoded) (arrays_map type arrays sizes) encoded e in
    let m = at_ok (arrays_map type arrays sizes) (λ (m : CoordinateMap). IsCoordinateMap sizes m) a.0 a.1 maps in
    subst (λ (k : ℕ). checked_u64 k ≡ Ok k) (ap product (sym a.2) ∙ m.count) (codec_counted f codec encoded type fill r measured)

-- the container of the chunk that the array-to-bytes codec reads is one that the array-to-array codecs move back
moved_back_held : {B : Type 0} (f : BytesCodecs B) (chain : PlainChain B) (sizes : List ℕ) (type : ElementType) (fill : List ℕ) (held : Held) (chunk : Chunk) (encoded : List ℕ) (r : BytesRepresentation) (t : IsTaken f chain sizes type fill encoded r)
    → checked_u64 (product sizes) ≡ Ok (product sizes) → length chunk ≡ product sizes → Holds type held chunk
    → decoded_chunk (Ok tt) (arrays_map type chain.array_to_array sizes) type sizes held ≡ Ok (moved_chunk (inverse_map sizes t.map_is) chunk)
moved_back_held f chain sizes type fill held chunk encoded r t counted long holds =
    let valid : validity type (product sizes) held ≡ Ok tt = subst (λ (k : ℕ). validity type k held ≡ Ok tt) long holds.valid in
    let is : elements type (product sizes) held ≡ chunk = subst (λ (k : ℕ). elements type k held ≡ chunk) long holds.elements_are in
    rw (t.mapped, counted, valid) (ap (λ c. ok (moved_chunk (inverse_map sizes t.map_is) c)) is)

pub chunk_back : {B : Type 0} (f : BytesCodecs B) (arrays : List ArrayMapping) (codec : PlainCodec B) (outer : List B) (sizes : List ℕ) (type : ElementType) (fill : List ℕ) (form : List ℕ × BytesRepresentation) (value below : List ℕ) (held : Held) (r : Result Held CodecError)
    → IsMapWhere type arrays sizes → taken_form f (record { array_to_array = arrays; array_to_bytes = codec; bytes_to_bytes = outer }) sizes type fill ≡ Ok form
    → outer_bytes f outer form.1 value ≡ Ok below
    → AnswersBy memory (Holds type) (Ok held) (codec_chunk f codec form.0 type fill below)
    → IfOk (decoded_chunk (Ok tt) (arrays_map type arrays sizes) type sizes held) (λ chunk. AnswersBy memory (Holds type) r (Ok chunk))
    → AnswersBy memory (Holds type) r (chain_chunk f (record { array_to_array = arrays; array_to_bytes = codec; bytes_to_bytes = outer }) sizes type fill value)
chunk_back {B} f arrays codec outer sizes type fill form value below held r maps e opened answers found =
    let chain : PlainChain B = record { array_to_array = arrays; array_to_bytes = codec; bytes_to_bytes = outer } in
    let t = is_taken f chain sizes type fill form e in
    let m = at_ok (arrays_map type arrays sizes) (λ (m : CoordinateMap). IsCoordinateMap sizes m) t.map_is t.mapped maps in
    let c = held_chunk type held (codec_chunk f codec form.0 type fill below) answers in
    let long : length c.0 ≡ product sizes = chunk_count f codec form.0 type fill below c.0 c.1 ∙ ap product (sym t.encoded_is) ∙ m.count in
    let counted = chain_counted f arrays codec outer sizes type fill form maps e in
    let chunk = moved_chunk (inverse_map sizes t.map_is) c.0 in
    let last : AnswersBy memory (Holds type) r (Ok chunk) = at_ok (decoded_chunk (Ok tt) (arrays_map type arrays sizes) type sizes held) (λ (x : Chunk). AnswersBy memory (Holds type) r (Ok x)) chunk (moved_back_held f chain sizes type fill held c.0 form.0 form.1 t counted long c.2) found in
    let is : chain_chunk f chain sizes type fill value ≡ Ok chunk = chunk_through f chain sizes type fill form value e ∙ two_ok (outer_bytes f outer form.1 value) below (codec_chunk f codec form.0 type fill) c.0 (λ (x : Chunk). ok (moved_chunk (inverse_map sizes t.map_is) x)) opened c.1 in
    subst (λ (x : Result Chunk CodecError). AnswersBy memory (Holds type) r x) (sym is) last
