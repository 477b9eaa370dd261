-- The codec `sharding_indexed`: the values of inner chunks, and an index of where the value of each begins and how long it is.
-- Source: the Zarr v3 codec `sharding_indexed`.
use Rattle.std.specs.Cmp.Lexicographic.{pointwise}
use Rattle.std.specs.List.{list_all, flat_map, AllZip}
use Rattle.std.specs.Prelude.{ℕ, ◌+◌, ◌*◌, ◌-◌, ◌^◌, ◌==◌, nat_eq, nat_lt, nat_le, if◌then◌else◌, Bool, true, false, not, ◌&&◌, Option, Some, None, unwrap_or, List, [], ◌∷◌, ◌++◌, length, take, drop, map, All, Result, Ok, Err, ◌≡◌, ◌<◌, ◌≤◌}
use Rattle.zarrs_array_bytes.specs.Validity.{sizes_fit}
use Rattle.zarrs_bytes.specs.BytesCodec.{IsChunk}
use Rattle.zarrs_bytes.specs.PartialWrite.{filled_chunk}
use Rattle.zarrs_chain_meaning.specs.BytesStages.{in_memory}
use Rattle.zarrs_chain_meaning.specs.Meaning.{Measure, Encoder, Decoder, Standing, Keeping, Meaning}
use Rattle.zarrs_chain_meaning.specs.Parts.{for_each}
use Rattle.zarrs_chain_meaning.specs.optional.Optional.{bounded_total}
use Rattle.zarrs_chain_meaning.specs.sharding.InnerChunks.{is_divided, grid, inner_chunk_count, inner_chunks_of, joined_inner_chunks}
use Rattle.zarrs_chain_meaning.specs.vlen.Vlen.{offset_type, offset_bytes, offset_elements, offsets_in_chunk, is_same_bytes}
use Rattle.zarrs_chunk.specs.Answer.{◌>>=◌, demand, checked_u64}
use Rattle.zarrs_chunk.specs.ChunkShape.{product}
use Rattle.zarrs_chunk.specs.declared.codec_error.CodecError.TheVariants.{IncompatibleDimensionality, IndivisibleShape, InvalidFillValue, IndexNotFixed, Overflow, OffsetNotKept, InvalidBytesLength, InvalidByteRange}
use Rattle.zarrs_chunk.specs.declared.codec_error.CodecError.{CodecError}
use Rattle.zarrs_codec.specs.declared.bytes_representation.BytesRepresentation.TheVariants.{FixedSize}
use Rattle.zarrs_codec.specs.declared.bytes_representation.BytesRepresentation.{BytesRepresentation}
use Rattle.zarrs_data_type.specs.Element.{Element, plain, absent, present, Chunk, fill_element}
use Rattle.zarrs_data_type.specs.ElementType.{ElementType}

-- ---- the index

-- the shape of the index: two numbers for each inner chunk
abbrev pub index_shape : List ℕ → List ℕ → List ℕ
index_shape shape sizes = grid shape sizes ++ 2 ∷ []

-- a size that is fixed, or the error
abbrev pub fixed_size : BytesRepresentation → Result ℕ CodecError
fixed_size (FixedSize size) = Ok size
fixed_size _ = Err IndexNotFixed

-- how many bytes the index chain makes of the index of a chunk, which has the type uint64 and the fill value 0
abbrev pub index_size : Measure → List ℕ → List ℕ → Result ℕ CodecError
index_size index shape sizes = index (index_shape shape sizes) (offset_type true) (offset_bytes true 0) >>= fixed_size

-- both numbers of an inner chunk that isn't stored; shut, since it computes to a large number
unfoldable pub missing : ℕ
missing = 2 ^ 64 - 1

-- where the value of an inner chunk begins, and how many bytes it has
abbrev pub Span : Type 0
Span = ℕ × ℕ

-- an inner chunk is stored, unless both numbers are the missing one
abbrev pub is_stored : Span → Bool
is_stored span = not (nat_eq span.0 missing && nat_eq span.1 missing)

-- the numbers of an index, two by two
abbrev pub spans_of : List ℕ → List Span
spans_of (at ∷ size ∷ numbers) = (at, size) ∷ spans_of numbers
spans_of numbers = []

-- ---- inner chunks that are left out

-- two elements are the same
abbrev pub is_same_element : Element → Element → Bool
is_same_element (plain items) (plain others) = pointwise nat_eq items others
is_same_element absent absent = true
is_same_element (present one) (present other) = is_same_element one other
is_same_element _ _ = false

-- the normal form of an element is the fill element
abbrev pub is_kept_as_fill : Keeping → ElementType → List ℕ → Element → Bool
is_kept_as_fill keep type fill element = is_same_element (keep type element) (fill_element type fill)

-- an inner chunk is left out where the normal form of each of its elements is the fill element
abbrev pub is_left_out : Keeping → ElementType → List ℕ → Chunk → Bool
is_left_out keep type fill inner_chunk = list_all (is_kept_as_fill keep type fill) inner_chunk

-- ---- which chunks, and how many bytes

-- the representation of the value of such a chunk, or the first error: inner chunks that don't divide the chunk, elements that 64 bits don't count, or their bytes, that of the inner chain, a fill value that isn't its own normal form, and that of the index chain
abbrev pub shard_representation : List ℕ → Keeping → Measure → Measure → Measure
shard_representation shape keep inner index sizes type fill = do
  _ ← demand (length shape == length sizes) IncompatibleDimensionality
  _ ← demand (is_divided shape sizes) IndivisibleShape
  _ ← checked_u64 (product sizes)
  _ ← sizes_fit type (product sizes)
  r ← inner shape type fill
  _ ← demand (is_kept_as_fill keep type fill (fill_element type fill)) InvalidFillValue
  size ← index_size index shape sizes
  Ok (bounded_total (λ inner index. inner_chunk_count shape sizes * inner + index) r (FixedSize size))

-- ---- the value of a chunk

-- all values, one behind the other
abbrev pub joined_values : List (Option (List ℕ)) → List ℕ
joined_values parts = flat_map (λ part. unwrap_or part []) parts

-- the numbers of the index, where the first value begins at an offset
abbrev pub index_numbers : ℕ → List (Option (List ℕ)) → List ℕ
index_numbers at [] = []
index_numbers at (None ∷ parts) = missing ∷ missing ∷ index_numbers at parts
index_numbers at (Some part ∷ parts) = at ∷ length part ∷ index_numbers (at + length part) parts

-- the offset at which the first value begins
abbrev pub first_offset : Bool → ℕ → ℕ
first_offset at_end size = if at_end then 0 else size

-- the index before the values or behind them
abbrev pub shard_layout : Bool → List ℕ → List ℕ → List ℕ
shard_layout false index values = index ++ values
shard_layout true index values = values ++ index

-- the value of a chunk that the codec takes, or the first error: of the inner chain, in order; of inner chunks' values that 64 bits don't count, behind the index where it stands before them; of the index chain, which has to keep the numbers
abbrev pub shard_value : List ℕ → Bool → Keeping → Keeping → Measure → Encoder → Encoder → Encoder
shard_value shape at_end keep index_keep index_measure inner index sizes type fill chunk = do
  size ← index_size index_measure shape sizes
  parts ← for_each (λ inner_chunk. if is_left_out keep type fill inner_chunk then Ok None else inner shape type fill inner_chunk >>= λ part. Ok (Some part)) (inner_chunks_of shape sizes chunk)
  let at = first_offset at_end size
  _ ← demand (nat_lt (at + length (joined_values parts)) (2 ^ 64)) Overflow
  let rows = offset_elements true (index_numbers at parts)
  index_part ← index (index_shape shape sizes) (offset_type true) (offset_bytes true 0) rows
  _ ← demand (is_same_bytes (map (index_keep (offset_type true)) rows) rows) OffsetNotKept
  in_memory (shard_layout at_end index_part (joined_values parts))

-- ---- the chunk of a value

-- the index of a value whose index has so many bytes
abbrev pub index_part_of : Bool → ℕ → List ℕ → List ℕ
index_part_of false size value = take size value
index_part_of true size value = drop (length value - size) value

-- where the inner chunks stand, by the index of a value, or the first error
abbrev pub spans_in : List ℕ → Bool → Measure → Decoder → List ℕ → List ℕ → Result (List Span) CodecError
spans_in shape at_end measure index sizes value = do
  size ← index_size measure shape sizes
  _ ← demand (nat_le size (length value)) (InvalidBytesLength (length value) size)
  rows ← index (index_shape shape sizes) (offset_type true) (offset_bytes true 0) (index_part_of at_end size value)
  Ok (spans_of (offsets_in_chunk true rows))

-- the bytes of a span
abbrev pub spanned_bytes : List ℕ → Span → List ℕ
spanned_bytes value span = take span.1 (drop span.0 value)

-- the inner chunk at a span, or that of fill elements where it isn't stored
abbrev pub inner_chunk_at : Bool → Decoder → List ℕ → ElementType → List ℕ → List ℕ → Span → Result Chunk CodecError
inner_chunk_at false inner shape type fill value span = Ok (filled_chunk shape type fill)
inner_chunk_at true inner shape type fill value span = do
  _ ← demand (nat_le (span.0 + span.1) (length value)) InvalidByteRange
  inner shape type fill (spanned_bytes value span)

-- the chunk that a value stands for, of chunks that the codec takes, or the first error
abbrev pub shard_chunk : List ℕ → Bool → Measure → Decoder → Decoder → Decoder
shard_chunk shape at_end index_measure inner index sizes type fill value = do
  spans ← spans_in shape at_end index_measure index sizes value
  inner_chunks ← for_each (λ span. inner_chunk_at (is_stored span) inner shape type fill value span) spans
  Ok (joined_inner_chunks shape sizes inner_chunks)

-- ---- what stands and what is written

-- the bytes at a span inside the value stand for the inner chunk; where it isn't stored, it is of fill elements
abbrev pub InnerChunkStands : Bool → Standing → List ℕ → ElementType → List ℕ → List ℕ → Span → Chunk → Type 0
InnerChunkStands false inner shape type fill value span inner_chunk = inner_chunk ≡ filled_chunk shape type fill
InnerChunkStands true inner shape type fill value span inner_chunk = (span.0 + span.1 ≤ length value) × inner shape type fill (spanned_bytes value span) inner_chunk

-- The index, before other bytes or behind them, stands for two numbers for each inner chunk; and the bytes at these stand for that inner chunk. They are in any order, and may overlap one another and the index.
pub record ShardStands (shape : List ℕ) (at_end : Bool) (index_measure : Measure) (inner index : Standing) (sizes : List ℕ) (type : ElementType) (fill value : List ℕ) (chunk : Chunk) : Type 0 where
  pub divided : is_divided shape sizes ≡ true
  pub size : ℕ
  pub index_part : List ℕ
  pub others : List ℕ
  pub rows : Chunk
  pub sized : index_size index_measure shape sizes ≡ Ok size
  pub parts : value ≡ shard_layout at_end index_part others
  pub index_long : length index_part ≡ size
  pub index_stands : index (index_shape shape sizes) (offset_type true) (offset_bytes true 0) index_part rows
  pub elements : IsChunk type (product sizes) chunk
  pub inner_chunks : AllZip (λ span inner_chunk. InnerChunkStands (is_stored span) inner shape type fill value span inner_chunk) (spans_of (offsets_in_chunk true rows)) (inner_chunks_of shape sizes chunk)

-- an inner chunk is left out, or its value is what the inner chain writes
abbrev pub InnerChunkWritten : Bool → Standing → List ℕ → ElementType → List ℕ → Chunk → Option (List ℕ) → Type 0
InnerChunkWritten true inner shape type fill inner_chunk None = Unit {0}
InnerChunkWritten false inner shape type fill inner_chunk (Some part) = inner shape type fill part inner_chunk
InnerChunkWritten left_out inner shape type fill inner_chunk part = ⊥

-- The values of the inner chunks that aren't left out, one behind the other, and the index of where each begins and how long it is, whose numbers the index chain keeps.
pub record ShardWritten (shape : List ℕ) (at_end : Bool) (keep index_keep : Keeping) (index_measure : Measure) (inner index : Standing) (sizes : List ℕ) (type : ElementType) (fill value : List ℕ) (chunk : Chunk) : Type 0 where
  pub divided : is_divided shape sizes ≡ true
  pub size : ℕ
  pub values : List (Option (List ℕ))
  pub index_part : List ℕ
  pub sized : index_size index_measure shape sizes ≡ Ok size
  pub elements : IsChunk type (product sizes) chunk
  pub inner_chunks : AllZip (λ inner_chunk part. InnerChunkWritten (is_left_out keep type fill inner_chunk) inner shape type fill inner_chunk part) (inner_chunks_of shape sizes chunk) values
  pub counted : first_offset at_end size + length (joined_values values) < 2 ^ 64
  pub index_written : index (index_shape shape sizes) (offset_type true) (offset_bytes true 0) index_part (offset_elements true (index_numbers (first_offset at_end size) values))
  pub kept : map (index_keep (offset_type true)) (offset_elements true (index_numbers (first_offset at_end size) values)) ≡ offset_elements true (index_numbers (first_offset at_end size) values)
  pub parts : value ≡ shard_layout at_end index_part (joined_values values)
  pub small : length value < 2 ^ 64

-- ---- all of it

-- what `sharding_indexed` means, by what its two chains mean; no size of an inner chunk is zero
abbrev pub shard_meaning : {B : Type 0} → List ℕ → Bool → Meaning B → Meaning B → Meaning B
shard_meaning shape at_end inner index = record {
  Mapped = All (λ size. 0 < size) shape × inner.Mapped × index.Mapped;
  normal = inner.normal;
  representation = λ f. shard_representation shape inner.normal (inner.representation f) (index.representation f);
  value = λ f. shard_value shape at_end inner.normal index.normal (index.representation f) (inner.value f) (index.value f);
  chunk = λ f. shard_chunk shape at_end (index.representation f) (inner.chunk f) (index.chunk f);
  Stands = λ f. ShardStands shape at_end (index.representation f) (inner.Stands f) (index.Stands f);
  Written = λ f. ShardWritten shape at_end inner.normal index.normal (index.representation f) (inner.Written f) (index.Written f);
}
