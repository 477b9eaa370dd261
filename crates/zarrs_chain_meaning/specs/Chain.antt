-- What a chain's calls answer.
-- Source: zarrs, `PartialDecoderCapability`.
use Rattle.std.specs.Prelude.{ℕ, zero, suc, ◌&&◌, Bool, List, [], ◌∷◌, Option, None, Some, is_some, Result, Ok}
use Rattle.std.specs.List.{list_all}
use Rattle.zarrs_chunk.specs.Answer.{◌>>=◌, seen}
use Rattle.zarrs_chunk.specs.ChunkShape.{product}
use Rattle.zarrs_chunk.specs.declared.codec_error.CodecError.{CodecError}
use Rattle.zarrs_data_type.specs.ElementType.{ElementType}
use Rattle.zarrs_array_bytes.specs.Elements.{elements}
use Rattle.zarrs_array_bytes.specs.Held.{Held}
use Rattle.zarrs_array_bytes.specs.Validity.{validity}
use Rattle.zarrs_codec.specs.BytesToBytesCodec.{BytesCodecs}
use Rattle.zarrs_codec.specs.declared.bytes_representation.BytesRepresentation.{BytesRepresentation}
use Rattle.zarrs_codec.specs.declared.capabilities.PartialDecoderCapability.{PartialDecoderCapability}
use Rattle.zarrs_codec.specs.declared.capabilities.PartialEncoderCapability.{PartialEncoderCapability}
use Rattle.zarrs_chain_meaning.specs.CodecFacts.{facts}
use Rattle.zarrs_chain_meaning.specs.ArrayStages.{arrays_map}
use Rattle.zarrs_chain_meaning.specs.Meaning.{Decoder}
use Rattle.zarrs_chain_meaning.specs.CodecMeaning.{PlainCodec, PlainChain, meaning, chain_meaning, codec_representation, codec_value, codec_chunk}

-- the sizes of the chunk that a chain's array-to-bytes codec gets, and how many bytes it makes of it; or the first error
abbrev pub taken_form : {B : Type 0} → BytesCodecs B → PlainChain B → List ℕ → ElementType → List ℕ → Result (List ℕ × BytesRepresentation) CodecError
taken_form f chain sizes type fill = do
  encoded ← seen (λ m. m.encoded) (arrays_map type chain.array_to_array sizes)
  r ← (meaning chain.array_to_bytes).representation f encoded type fill
  Ok (encoded, r)

-- the value that an array-to-bytes codec writes of the chunk that a container holds, or the first error: its representation, the container, the content
abbrev pub codec_held_value : {B : Type 0} → BytesCodecs B → PlainCodec B → List ℕ → ElementType → List ℕ → Held → Result (List ℕ) CodecError
codec_held_value f codec sizes type fill held = do
  _ ← codec_representation f codec sizes type fill
  _ ← validity type (product sizes) held
  codec_value f codec sizes type fill (elements type (product sizes) held)

-- the chunk that an array-to-bytes codec reads of a value, or the first error: its representation, the value
abbrev pub taken_chunk : {B : Type 0} → BytesCodecs B → PlainCodec B → Decoder
taken_chunk f codec sizes type fill value = do
  _ ← codec_representation f codec sizes type fill
  codec_chunk f codec sizes type fill value

-- the value of the chunk that a container holds, or the first error: the chain's representation, the container, the content
abbrev pub held_value : {B : Type 0} → BytesCodecs B → PlainChain B → List ℕ → ElementType → List ℕ → Held → Result (List ℕ) CodecError
held_value f chain sizes type fill held = do
  _ ← (chain_meaning chain).representation f sizes type fill
  _ ← validity type (product sizes) held
  (chain_meaning chain).value f sizes type fill (elements type (product sizes) held)

-- the sizes of a row of so many elements, if there are any
abbrev pub row_sizes : ℕ → Option (List ℕ)
row_sizes zero = None
row_sizes (suc count) = Some (suc count ∷ [])

-- the part that a chain writes of a row of so many elements that a container holds; nothing of none
abbrev pub held_part : {B : Type 0} → BytesCodecs B → PlainChain B → ℕ → ElementType → List ℕ → Held → Result (List ℕ) CodecError
held_part f chain zero type fill held = Ok []
held_part f chain (suc count) type fill held = held_value f chain (suc count ∷ []) type fill held

-- all that can be read in part, or nothing of it
abbrev pub reads_all_if : Bool → PartialDecoderCapability
reads_all_if test = record { partial_read = test; partial_decode = test }

-- what an array-to-bytes codec reads in part: `bytes`, `packbits`, a plain `vlen` and `sharding_indexed` all, any other nothing
abbrev pub codec_reads : {B : Type 0} → PlainCodec B → PartialDecoderCapability
codec_reads codec = reads_all_if (facts codec).reads

-- what it writes in part: `bytes` alone does
abbrev pub codec_writes : {B : Type 0} → PlainCodec B → PartialEncoderCapability
codec_writes codec = record { partial_encode = is_some (facts codec).order }

-- what all bytes-to-bytes codecs read in part
abbrev pub outer_reads : {B : Type 0} → (B → PartialDecoderCapability) → List B → PartialDecoderCapability
outer_reads reads codecs = record {
  partial_read = list_all (λ codec. (reads codec).partial_read) codecs;
  partial_decode = list_all (λ codec. (reads codec).partial_decode) codecs;
}

-- what a chain reads in part: what all of its codecs do; array-to-array codecs do all
abbrev pub chain_reads : {B : Type 0} → (B → PartialDecoderCapability) → PlainChain B → PartialDecoderCapability
chain_reads reads chain = record {
  partial_read = (outer_reads reads chain.bytes_to_bytes).partial_read && (codec_reads chain.array_to_bytes).partial_read;
  partial_decode = (outer_reads reads chain.bytes_to_bytes).partial_decode && (codec_reads chain.array_to_bytes).partial_decode;
}

-- what it writes in part: likewise
abbrev pub chain_writes : {B : Type 0} → (B → PartialEncoderCapability) → PlainChain B → PartialEncoderCapability
chain_writes {B} writes chain = record {
  partial_encode = list_all (λ (codec : B). (writes codec).partial_encode) chain.bytes_to_bytes && (codec_writes chain.array_to_bytes).partial_encode;
}
