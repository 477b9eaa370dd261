-- The codec `optional`: a mask chain writes which elements are present, and a data chain those.
-- Source: codec.zarrs.dev, `optional`.
use Rattle.std.specs.Prelude.{ℕ, ◌+◌, ◌^◌, Bool, false, nat_lt, if◌then◌else◌, List, [], ◌∷◌, replicate, Result, Ok, Err, map, filter, ◌≡◌, ◌<◌, true, ◌++◌, length, zero, suc, ◌==◌, nat_le, take, drop, IsSomeAnd}
use Rattle.zarrs_bytes.specs.BytesCodec.{IsChunk}
use Rattle.zarrs_chain_meaning.specs.BytesStages.{in_memory}
use Rattle.zarrs_chain_meaning.specs.Meaning.{Measure, Encoder, Decoder, Standing, Keeping, Meaning, in_a_row}
use Rattle.zarrs_chain_meaning.specs.Parts.{for_each, part_length_bytes, length_of}
use Rattle.zarrs_chain_meaning.specs.declared.codec_name.TheConstants.{OPTIONAL}
use Rattle.zarrs_chunk.specs.Answer.{◌>>=◌, demand, checked_u64}
use Rattle.zarrs_chunk.specs.ChunkShape.{product}
use Rattle.zarrs_chunk.specs.declared.codec_error.CodecError.TheVariants.{UnsupportedDataType, InvalidFillValue, InvalidBytesLength, MaskValue, HeaderOverflow}
use Rattle.zarrs_chunk.specs.declared.codec_error.CodecError.{CodecError}
use Rattle.zarrs_codec.specs.declared.bytes_representation.BytesRepresentation.TheVariants.{FixedSize, BoundedSize, UnboundedSize}
use Rattle.zarrs_codec.specs.declared.bytes_representation.BytesRepresentation.{BytesRepresentation}
use Rattle.zarrs_data_type.specs.Element.{Element, plain, present, Chunk, absent}
use Rattle.zarrs_data_type.specs.ElementType.{ElementType, fixed, optional, element_size, inner_of}
use Rattle.zarrs_data_type.specs.FillValue.{fill_fits}

-- ---- which chunks, and how many bytes

-- flags, one for each element
abbrev pub flag_type : ElementType
flag_type = fixed 1 1 false

-- the fill value that a chain of present elements gets: zeros for a fixed type, absent for an optional one, no bytes for texts and byte strings
abbrev pub blank_fill : ElementType → List ℕ
blank_fill (fixed width components sign) = replicate (element_size width components) 0
blank_fill (optional type) = 0 ∷ []
blank_fill type = []

-- at most so many bytes, or any number where 64 bits don't count them
abbrev pub bounded : ℕ → BytesRepresentation
bounded size = if nat_lt size (2 ^ 64) then BoundedSize size else UnboundedSize

-- how many bytes two parts have together, by how many each has: at most the total of the most that they have; unbounded where one of them is
abbrev pub bounded_total : (ℕ → ℕ → ℕ) → BytesRepresentation → BytesRepresentation → BytesRepresentation
bounded_total total (FixedSize one) (FixedSize other) = bounded (total one other)
bounded_total total (FixedSize one) (BoundedSize other) = bounded (total one other)
bounded_total total (BoundedSize one) (FixedSize other) = bounded (total one other)
bounded_total total (BoundedSize one) (BoundedSize other) = bounded (total one other)
bounded_total total _ _ = UnboundedSize

-- how many bytes a value of `optional` has at most, or the first error: that of the mask chain, and then that of the data chain, both at the full shape
abbrev pub optional_representation : Measure → Measure → Measure
optional_representation mask data' sizes (optional type) fill = do
  _ ← demand (fill_fits (optional type) fill) InvalidFillValue
  _ ← checked_u64 (product sizes)
  m ← mask sizes flag_type (0 ∷ [])
  d ← data' sizes type (blank_fill type)
  Ok (bounded_total (λ mask content. 16 + mask + content) m d)
optional_representation mask data' sizes type fill = Err (UnsupportedDataType OPTIONAL)

-- ---- the value of a chunk

-- one for a present element, zero for an absent one
abbrev pub flag_of : Element → Element
flag_of (present element) = plain (1 ∷ [])
flag_of _ = plain (0 ∷ [])

-- the present elements
abbrev pub present_of : Chunk → Chunk
present_of [] = []
present_of (present element ∷ chunk) = element ∷ present_of chunk
present_of (_ ∷ chunk) = present_of chunk

-- the value of `optional`: the lengths of mask and data, the mask, the data
abbrev pub optional_layout : List ℕ → List ℕ → List ℕ
optional_layout mask data' = part_length_bytes mask ++ (part_length_bytes data' ++ (mask ++ data'))

-- the value that `optional` writes of a chunk, by the encoders of its two chains; or the first error
abbrev pub optional_value : Encoder → Encoder → List ℕ → ElementType → Chunk → Result (List ℕ) CodecError
optional_value mask data' sizes (optional type) chunk = do
  mask_part ← mask sizes flag_type (0 ∷ []) (map flag_of chunk)
  data_part ← in_a_row (Ok []) (λ sizes. data' sizes type (blank_fill type) (present_of chunk)) (length (present_of chunk))
  in_memory (optional_layout mask_part data_part)
optional_value mask data' sizes type chunk = Ok []

-- ---- the chunk of a value

-- the mask and the data of a value, or the first error: nothing else stands behind their lengths
abbrev pub optional_parts : List ℕ → Result (List ℕ × List ℕ) CodecError
optional_parts value = do
  _ ← demand (nat_le 16 (length value)) (InvalidBytesLength (length value) 16)
  let mask_size = length_of (take 8 value)
  let data_size = length_of (take 8 (drop 8 value))
  let size = 16 + mask_size + data_size
  _ ← demand (nat_lt size (2 ^ 64)) HeaderOverflow
  _ ← demand (length value == size) (InvalidBytesLength (length value) size)
  Ok (take mask_size (drop 16 value), drop mask_size (drop 16 value))

-- a flag of one byte, 0 or 1
abbrev pub flag_in : Element → Result Bool CodecError
flag_in (plain (zero ∷ [])) = Ok false
flag_in (plain (suc zero ∷ [])) = Ok true
flag_in _ = Err MaskValue

-- the elements at the places whose flags are set
abbrev pub under_flags : List Bool → Chunk → Chunk
under_flags [] chunk = []
under_flags (false ∷ flags) chunk = absent ∷ under_flags flags chunk
under_flags (true ∷ flags) [] = absent ∷ under_flags flags []
under_flags (true ∷ flags) (element ∷ chunk) = present element ∷ under_flags flags chunk

-- the chunk that a value stands for, by the decoders of its two chains; or the first error
abbrev pub optional_chunk : Decoder → Decoder → List ℕ → ElementType → List ℕ → Result Chunk CodecError
optional_chunk mask data' sizes (optional type) value = do
  parts ← optional_parts value
  mask_chunk ← mask sizes flag_type (0 ∷ []) parts.0
  flags ← for_each flag_in mask_chunk
  elements ← in_a_row (Ok []) (λ sizes. data' sizes type (blank_fill type) parts.1) (length (filter (λ set. set) flags))
  Ok (under_flags flags elements)
optional_chunk mask data' sizes type value = Err (UnsupportedDataType OPTIONAL)

-- ---- what is kept of an element

-- what is present as the data chain keeps it
abbrev pub optional_normal : Keeping → Keeping
optional_normal data' (optional type) (present element) = present (data' type element)
optional_normal data' type element = element

-- ---- what stands and what is written

-- Two lengths, a mask part and a data part of just these lengths. The mask part stands for zeros and ones, the data part for the present elements in a row; where there are none, it may be any bytes.
pub record OptionalStands (mask content : Standing) (sizes : List ℕ) (type : ElementType) (value : List ℕ) (chunk : Chunk) : Type 0 where
  pub head : List ℕ
  pub next : List ℕ
  pub mask_part : List ℕ
  pub data_part : List ℕ
  pub parts : value ≡ head ++ (next ++ (mask_part ++ data_part))
  pub head_size : length head ≡ 8
  pub next_size : length next ≡ 8
  pub head_is : length_of head ≡ length mask_part
  pub next_is : length_of next ≡ length data_part
  pub small : length value < 2 ^ 64
  pub elements : IsChunk (optional type) (product sizes) chunk
  pub mask_stands : mask sizes flag_type (0 ∷ []) mask_part (map flag_of chunk)
  pub data_stands : in_a_row (Unit {0}) (λ sizes. content sizes type (blank_fill type) data_part (present_of chunk)) (length (present_of chunk))

-- The lengths of the mask and of the data, and both, each as its chain writes it.
pub record OptionalWritten (mask content : Standing) (sizes : List ℕ) (type : ElementType) (value : List ℕ) (chunk : Chunk) : Type 0 where
  pub mask_part : List ℕ
  pub data_part : List ℕ
  pub small : length value < 2 ^ 64
  pub parts : value ≡ optional_layout mask_part data_part
  pub mask_written : mask sizes flag_type (0 ∷ []) mask_part (map flag_of chunk)
  pub data_written : in_a_row (data_part ≡ []) (λ sizes. content sizes type (blank_fill type) data_part (present_of chunk)) (length (present_of chunk))

-- ---- all of it

-- what `optional` means, by what its two chains mean; of types that are optional alone
abbrev pub optional_meaning : {B : Type 0} → Meaning B → Meaning B → Meaning B
optional_meaning mask content = record {
  Mapped = mask.Mapped × content.Mapped;
  normal = optional_normal content.normal;
  representation = λ f. optional_representation (mask.representation f) (content.representation f);
  value = λ f sizes type fill chunk. optional_value (mask.value f) (content.value f) sizes type chunk;
  chunk = λ f sizes type fill value. optional_chunk (mask.chunk f) (content.chunk f) sizes type value;
  Stands = λ f sizes type fill value chunk. IsSomeAnd (inner_of type) (λ inner. OptionalStands (mask.Stands f) (content.Stands f) sizes inner value chunk);
  Written = λ f sizes type fill value chunk. IsSomeAnd (inner_of type) (λ inner. OptionalWritten (mask.Written f) (content.Written f) sizes inner value chunk);
}
