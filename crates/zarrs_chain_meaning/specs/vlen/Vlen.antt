-- The codec `vlen`: texts and byte strings as an index chain writes their offsets and a data chain their bytes.
-- Source: codec.zarrs.dev, `vlen`.
use Rattle.std.specs.Cmp.Lexicographic.{pointwise}
use Rattle.std.specs.Int.{w32, w64, to_le_bytes, from_le_bytes}
use Rattle.std.specs.List.{range_with_len}
use Rattle.std.specs.Prelude.{ℕ, ◌+◌, ◌^◌, Bool, false, nat_lt, if◌then◌else◌, List, [], ◌∷◌, Result, Ok, map, ◌≡◌, ◌<◌, true, ◌++◌, length, nat_eq, ◌||◌}
use Rattle.zarrs_array_bytes.specs.Elements.{cut}
use Rattle.zarrs_array_bytes.specs.Offsets.{rises, last_of}
use Rattle.zarrs_array_bytes.specs.Pieces.{ends}
use Rattle.zarrs_bytes.specs.ByteOrder.{bytes_of}
use Rattle.zarrs_chain_meaning.specs.BytesStages.{in_memory}
use Rattle.zarrs_chain_meaning.specs.Meaning.{Measure, Encoder, Decoder, Standing, Keeping, Meaning, in_a_row}
use Rattle.zarrs_chain_meaning.specs.Parts.{byte_type, the_byte, byte_elements, all_bytes, part_length_bytes, length_of}
use Rattle.zarrs_chain_meaning.specs.declared.codec_name.TheConstants.{VLEN}
use Rattle.zarrs_chain_meaning.specs.vlen.VlenLayout.{span_bytes, layout_of}
use Rattle.zarrs_chunk.specs.Answer.{◌>>=◌, demand, checked_u64}
use Rattle.zarrs_chunk.specs.ChunkShape.{product}
use Rattle.zarrs_chunk.specs.declared.codec_error.CodecError.TheVariants.{UnsupportedDataType, OffsetTooLarge, OffsetNotKept, InvalidOffsets}
use Rattle.zarrs_chunk.specs.declared.codec_error.CodecError.{CodecError}
use Rattle.zarrs_codec.specs.declared.bytes_representation.BytesRepresentation.TheVariants.{UnboundedSize}
use Rattle.zarrs_data_type.specs.Element.{plain, Chunk}
use Rattle.zarrs_data_type.specs.ElementType.{ElementType, fixed, text, bytes, is_variable}

-- ---- which chunks, and how many bytes

-- how many bytes a value of `vlen` has, or the first error; its inner chains aren't asked
abbrev pub vlen_representation : Measure
vlen_representation sizes type fill = do
  _ ← demand (is_variable type) (UnsupportedDataType VLEN)
  _ ← checked_u64 (product sizes)
  Ok UnboundedSize

-- ---- offsets

-- offsets of 64 bits or of 32
abbrev pub offset_type : Bool → ElementType
offset_type wide = fixed (if wide then 64 else 32) 1 false

-- an offset's bytes, the lowest first; shut, since they compute to a long list
unfoldable pub offset_bytes : Bool → ℕ → List ℕ
offset_bytes wide offset = if wide then to_le_bytes w64 offset else to_le_bytes w32 offset

-- the number that an offset's bytes spell; shut, since it computes to a long sum
unfoldable pub offset_of : Bool → List ℕ → ℕ
offset_of wide items = if wide then from_le_bytes w64 items else from_le_bytes w32 items

-- where each element begins, and where the last one ends
abbrev pub chunk_offsets : Chunk → List ℕ
chunk_offsets chunk = 0 ∷ ends 0 (map bytes_of chunk)

-- offsets as elements
abbrev pub offset_elements : Bool → List ℕ → Chunk
offset_elements wide offsets = map (λ offset. plain (offset_bytes wide offset)) offsets

-- the offset type has the number
abbrev pub offset_fits : Bool → ℕ → Bool
offset_fits wide offset = wide || nat_lt offset (2 ^ 32)

-- the numbers that offsets as elements are
abbrev pub offsets_in_chunk : Bool → Chunk → List ℕ
offsets_in_chunk wide chunk = map (λ element. offset_of wide (bytes_of element)) chunk

-- so many elements, each the bytes from its offset to the next
abbrev pub slices : ℕ → List ℕ → List ℕ → Chunk
slices count offsets items = map (λ place. plain (cut offsets items place)) (range_with_len 0 count)

-- the elements have the same bytes
abbrev pub is_same_bytes : Chunk → Chunk → Bool
is_same_bytes chunk others = pointwise (λ one other. pointwise nat_eq (bytes_of one) (bytes_of other)) chunk others

-- ---- the value of a chunk

-- the value of `vlen`: the length of the index, the index, the data; or, with the index at the end, the data, the index, its length
abbrev pub arranged : Bool → List ℕ → List ℕ → List ℕ → List ℕ
arranged false head index data' = head ++ (index ++ data')
arranged true head index data' = data' ++ (index ++ head)

-- the value that `vlen` writes of a chunk, by the encoders of its two chains; or the first error
abbrev pub vlen_value : Bool → Bool → Keeping → Encoder → Encoder → Chunk → Result (List ℕ) CodecError
vlen_value wide at_end keep index data' chunk = do
  let offsets = offset_elements wide (chunk_offsets chunk)
  items ← in_memory (all_bytes chunk)
  _ ← demand (offset_fits wide (length items)) OffsetTooLarge
  index_part ← index (length offsets ∷ []) (offset_type wide) (offset_bytes wide 0) offsets
  _ ← demand (is_same_bytes (map (keep (offset_type wide)) offsets) offsets) OffsetNotKept
  data_part ← in_a_row (Ok []) (λ sizes. data' sizes byte_type (0 ∷ []) (byte_elements items)) (length (byte_elements items))
  in_memory (arranged at_end (part_length_bytes index_part) index_part data_part)

-- ---- the chunk of a value

-- the index and the data of a value, or the first error
abbrev pub vlen_value_parts : Bool → List ℕ → Result (List ℕ × List ℕ) CodecError
vlen_value_parts at_end value = do
  layout ← layout_of at_end value
  Ok (span_bytes value layout.index, span_bytes value layout.content)

-- the offsets of so many elements, one more than these, that an index part stands for by its decoder, or the first error
abbrev pub vlen_offsets : Bool → Decoder → ℕ → List ℕ → Result (List ℕ) CodecError
vlen_offsets wide index count part = do
  _ ← checked_u64 (count + 1)
  chunk ← index ((count + 1) ∷ []) (offset_type wide) (offset_bytes wide 0) part
  _ ← demand (rises (offsets_in_chunk wide chunk)) InvalidOffsets
  Ok (offsets_in_chunk wide chunk)

-- the chunk of so many elements that a value stands for, by the decoders of its two chains; or the first error
abbrev pub vlen_chunk : Bool → Bool → Decoder → Decoder → ℕ → List ℕ → Result Chunk CodecError
vlen_chunk wide at_end index data' count value = do
  parts ← vlen_value_parts at_end value
  offsets ← vlen_offsets wide index count parts.0
  byte_chunk ← in_a_row (Ok []) (λ sizes. data' sizes byte_type (0 ∷ []) parts.1) (last_of offsets)
  Ok (slices count offsets (all_bytes byte_chunk))

-- ---- what is kept of an element

-- each byte as the data chain keeps it
abbrev pub vlen_normal : Keeping → Keeping
vlen_normal data' text (plain items) = plain (map (λ byte. the_byte (data' byte_type (plain (byte ∷ [])))) items)
vlen_normal data' bytes (plain items) = plain (map (λ byte. the_byte (data' byte_type (plain (byte ∷ [])))) items)
vlen_normal data' type element = element

-- ---- what stands and what is written

-- A length, an index part of that length and a data part. The index part stands for offsets, one more than elements, which never fall; the data part for as many bytes as the last of them says, and where that is none it may be any bytes; and an element is the bytes from one offset to the next.
pub record VlenStands (wide at_end : Bool) (index content : Standing) (count : ℕ) (value : List ℕ) (chunk : Chunk) : Type 0 where
  pub head : List ℕ
  pub index_part : List ℕ
  pub data_part : List ℕ
  pub offset_chunk : Chunk
  pub byte_chunk : Chunk
  pub parts : value ≡ arranged at_end head index_part data_part
  pub head_size : length head ≡ 8
  pub head_is : length_of head ≡ length index_part
  pub countable : count + 1 < 2 ^ 64
  pub index_stands : index ((count + 1) ∷ []) (offset_type wide) (offset_bytes wide 0) index_part offset_chunk
  pub rising : rises (offsets_in_chunk wide offset_chunk) ≡ true
  pub byte_count : length byte_chunk ≡ last_of (offsets_in_chunk wide offset_chunk)
  pub data_stands : in_a_row (Unit {0}) (λ sizes. content sizes byte_type (0 ∷ []) data_part byte_chunk) (length byte_chunk)
  pub elements : chunk ≡ slices count (offsets_in_chunk wide offset_chunk) (all_bytes byte_chunk)

-- Offsets are the sums of the lengths from zero, fit their type and are as the index chain keeps them; each part is the one that its chain writes.
pub record VlenWritten (wide at_end : Bool) (keep : Keeping) (index content : Standing) (value : List ℕ) (chunk : Chunk) : Type 0 where
  pub index_part : List ℕ
  pub data_part : List ℕ
  pub small : length value < 2 ^ 64
  pub parts : value ≡ arranged at_end (part_length_bytes index_part) index_part data_part
  pub bytes_small : length (all_bytes chunk) < 2 ^ 64
  pub fit : offset_fits wide (length (all_bytes chunk)) ≡ true
  pub kept : map (keep (offset_type wide)) (offset_elements wide (chunk_offsets chunk)) ≡ offset_elements wide (chunk_offsets chunk)
  pub index_written : index (length (offset_elements wide (chunk_offsets chunk)) ∷ []) (offset_type wide) (offset_bytes wide 0) index_part (offset_elements wide (chunk_offsets chunk))
  pub data_written : in_a_row (data_part ≡ []) (λ sizes. content sizes byte_type (0 ∷ []) data_part (byte_elements (all_bytes chunk))) (length (byte_elements (all_bytes chunk)))

-- ---- all of it

-- what `vlen` means, by what its two chains mean
abbrev pub vlen_meaning : {B : Type 0} → Bool → Bool → Meaning B → Meaning B → Meaning B
vlen_meaning wide at_end index content = record {
  Mapped = index.Mapped × content.Mapped;
  normal = vlen_normal content.normal;
  representation = λ f. vlen_representation;
  value = λ f sizes type fill chunk. vlen_value wide at_end index.normal (index.value f) (content.value f) chunk;
  chunk = λ f sizes type fill value. vlen_chunk wide at_end (index.chunk f) (content.chunk f) (product sizes) value;
  Stands = λ f sizes type fill value chunk. VlenStands wide at_end (index.Stands f) (content.Stands f) (product sizes) value chunk;
  Written = λ f sizes type fill value chunk. VlenWritten wide at_end index.normal (index.Written f) (content.Written f) value chunk;
}
