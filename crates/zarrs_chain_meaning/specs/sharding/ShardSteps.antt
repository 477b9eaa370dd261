-- The steps of a codec `sharding_indexed`, each by what its call is given.
use Rattle.std.specs.Prelude.{◌^◌, nat_lt, Vec, option_map, ◌≡◌, ◌+◌, ◌*◌, ◌==◌, ℕ, Bool, List, [], ◌∷◌, ◌++◌, length, nat_le, Option, Some, None, Result, Ok, if◌then◌else◌}
use Rattle.std.specs.declared.alloc.Global.{Global}
use Rattle.zarrs_chunk.specs.Answer.{◌>>=◌, demand, GivesValue}
use Rattle.zarrs_chunk.specs.Region.{Region}
use Rattle.zarrs_chunk.specs.declared.codec_error.CodecError.{CodecError}
use Rattle.zarrs_chunk.specs.declared.codec_error.CodecError.TheVariants.{IncompatibleDimensionality, IndivisibleShape, InvalidBytesLength, InvalidByteRange}
use Rattle.zarrs_chain_meaning.specs.sharding.InnerChunks.{is_divided, grid}
use Rattle.zarrs_grid.specs.ChunkTuples.{quotients}
use Rattle.zarrs_chain_meaning.specs.Meaning.{Decoder}
use Rattle.zarrs_chain_meaning.specs.Parts.{for_each}
use Rattle.zarrs_chain_meaning.specs.sharding.Sharding.{index_part_of, inner_chunk_at, is_stored, spanned_bytes, Span}
use Rattle.zarrs_data_type.specs.Element.{Chunk}
use Rattle.zarrs_data_type.specs.ElementType.{ElementType}

-- ---- inner chunks

-- how often each part goes into its size, where none leaves a rest
abbrev pub divided : List ℕ → List ℕ → Option (List ℕ)
divided shape sizes = if is_divided shape sizes then Some (quotients shape sizes) else None

-- these are the numbers, or there are none
abbrev pub IsDivided : List ℕ → List ℕ → Option (Vec ℕ Global) → Type 0
IsDivided shape sizes counts = option_map (λ v. v.items) counts ≡ divided shape sizes

-- how many inner chunks there are along each axis, or the first error
abbrev pub divided_grid : List ℕ → List ℕ → Result (List ℕ) CodecError
divided_grid shape sizes = do
  _ ← demand (length shape == length sizes) IncompatibleDimensionality
  _ ← demand (is_divided shape sizes) IndivisibleShape
  Ok (grid shape sizes)

-- where the inner chunk begins that has this tuple among the inner chunks
abbrev pub inner_start : List ℕ → List ℕ → List ℕ
inner_start (part ∷ shape) (number ∷ numbers) = number * part ∷ inner_start shape numbers
inner_start shape numbers = []

-- the box of that inner chunk
abbrev pub inner_region : List ℕ → List ℕ → Region
inner_region shape numbers = record { starts = inner_start shape numbers; lengths = shape }

-- the shape of the index is given: so many inner chunks along each axis, and for each its offset and its length
abbrev pub GivesIndexShape : List ℕ → Result (List ℕ) CodecError → Type 0
GivesIndexShape counts result = GivesValue result (Ok (counts ++ 2 ∷ []))

-- the value of an inner chunk, or none where it is left out
abbrev pub inner_value : Bool → Result (List ℕ) CodecError → Result (Option (List ℕ)) CodecError
inner_value left_out value = if left_out then Ok None else value >>= λ part. Ok (Some part)

-- the inner chunks at spans, in order, or the first error
abbrev pub inner_chunks_at : Decoder → List ℕ → ElementType → List ℕ → List ℕ → List Span → Result (List Chunk) CodecError
inner_chunks_at inner shape type fill value spans =
    for_each (λ span. inner_chunk_at (is_stored span) inner shape type fill value span) spans

-- ---- parts of a value

-- how many bytes so many inner chunks of one size and an index have, where 64 bits count them
abbrev pub shard_size : ℕ → ℕ → ℕ → Option ℕ
shard_size count inner index = if nat_lt (count * inner + index) (2 ^ 64) then Some (count * inner + index) else None

-- the bytes of the index, so many, or the error
abbrev pub index_bytes : List ℕ → ℕ → Bool → Result (List ℕ) CodecError
index_bytes value size at_end = do
  _ ← demand (nat_le size (length value)) (InvalidBytesLength (length value) size)
  Ok (index_part_of at_end size value)

-- the bytes of a value at a span, or the error where it ends behind the value
abbrev pub stored_span : List ℕ → ℕ → ℕ → Result (List ℕ) CodecError
stored_span value offset size = do
  _ ← demand (nat_le (offset + size) (length value)) InvalidByteRange
  Ok (spanned_bytes value (offset, size))
