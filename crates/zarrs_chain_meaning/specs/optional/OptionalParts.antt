-- What the calls of the codec `optional` answer, one step at a time.
use Rattle.std.specs.Prelude.{ℕ, List, length, filter, Result, Ok, Err, []}
use Rattle.zarrs_chunk.specs.Answer.{◌>>=◌, GivesBy}
use Rattle.zarrs_chunk.specs.declared.codec_error.CodecError.{CodecError}
use Rattle.zarrs_chunk.specs.declared.codec_error.CodecError.TheVariants.{UnsupportedDataType}
use Rattle.zarrs_data_type.specs.ElementType.{ElementType, fixed, text, bytes, optional}
use Rattle.zarrs_data_type.specs.Element.{Chunk}
use Rattle.zarrs_array_bytes.specs.Elements.{elements}
use Rattle.zarrs_array_bytes.specs.Held.{Held, masked, owned_bytes}
use Rattle.zarrs_array_bytes.specs.Present.{present_elements}
use Rattle.zarrs_chain_meaning.specs.Meaning.{Decoder, in_a_row}
use Rattle.zarrs_chain_meaning.specs.optional.Optional.{under_flags, blank_fill, flag_in}
use Rattle.zarrs_chain_meaning.specs.CodecMeaning.{PlainCodec, PlainChain, codec_value, chain_chunk}
use Rattle.zarrs_chain_meaning.specs.Parts.{byte_elements, for_each}
use Rattle.std.proofs.Common.{Bor}
use Rattle.zarrs_chunk.specs.ChunkShape.{product}
use Rattle.zarrs_array_bytes.specs.Validity.{Holds}
use Rattle.zarrs_codec.specs.BytesToBytesCodec.{BytesCodecs}
use Rattle.zarrs_chain_meaning.specs.declared.codec_name.TheConstants.{OPTIONAL}

-- the type inside, or the error of a type that isn't optional
abbrev pub optional_inner : ElementType → Result ElementType CodecError
optional_inner (fixed width components sign) = Err (UnsupportedDataType OPTIONAL)
optional_inner text = Err (UnsupportedDataType OPTIONAL)
optional_inner bytes = Err (UnsupportedDataType OPTIONAL)
optional_inner (optional type) = Ok type

-- the elements of a container that are present under mask bytes
abbrev pub elements_under : ElementType → Held → List ℕ → Chunk
elements_under type held mask = present_elements (elements (optional type) (length mask) (masked held (owned_bytes mask)))

-- the elements that a part stands for, at the places whose flags are set
abbrev pub present_part : Decoder → ElementType → Chunk → List ℕ → Result Chunk CodecError
present_part decode type mask part = do
  flags ← for_each flag_in mask
  items ← in_a_row (Ok []) (λ sizes. decode sizes type (blank_fill type) part) (length (filter (λ set. set) flags))
  Ok (under_flags flags items)

-- the bytes of both parts, which are lent
abbrev pub both_lent : Bor (List ℕ) × Bor (List ℕ) → List ℕ × List ℕ
both_lent parts = (parts.0.now, parts.1.now)

-- the value of the chunk of optional elements that a container holds, this being the type inside
abbrev pub optional_content : {B : Type 0} → BytesCodecs B → PlainCodec B → List ℕ → ElementType → Held → Result (List ℕ) CodecError
optional_content f codec sizes inner held = codec_value f codec sizes (optional inner) [] (elements (optional inner) (product sizes) held)

-- a container of the elements that a data part stands for under a mask, or the first error
abbrev pub GivesPresent : {B : Type 0} → BytesCodecs B → PlainChain B → ElementType → List ℕ → List ℕ → Result Held CodecError → Type 0
GivesPresent f chain type mask part result =
    GivesBy (Holds (optional type)) result (present_part (chain_chunk f chain) type (byte_elements mask) part)
