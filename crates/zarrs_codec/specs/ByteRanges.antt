-- The bytes of a stored value, by ranges of them.
-- Source: zarrs, `ByteRange`.
use Rattle.std.specs.Prelude.{◌≡◌, ℕ, ◌-◌, ◌<◌, nat_le, Bool, true, false, Option, Some, None, List, length, slice_index, Result, Ok}
use Rattle.std.specs.List.{between, flat_map, list_all, range_with_len}
use Rattle.zarrs_chunk.specs.Answer.{◌>>=◌, demand}
use Rattle.zarrs_chunk.specs.declared.codec_error.CodecError.{CodecError}
use Rattle.zarrs_chunk.specs.declared.codec_error.CodecError.TheVariants.{InvalidByteRange}
use Rattle.zarrs_codec.specs.ByteSpan.{ByteSpan}
use Rattle.zarrs_codec.specs.StorageState.{StorageState, are_sure}

-- the numbers of the ranges' bytes, in order
abbrev pub range_indices : List ByteSpan → List ℕ
range_indices ranges = flat_map (λ range. range_with_len range.start (range.end - range.start)) ranges

-- all bytes of the ranges are sure to be read
abbrev pub ranges_are_sure : StorageState → List ByteSpan → Bool
ranges_are_sure state ranges = are_sure state.sure (range_indices ranges)

-- these are a range's bytes of a value, inside which it ends
abbrev pub IsPieceOf : List ℕ → ByteSpan → List ℕ → Type 0
IsPieceOf value range bytes =
    (bytes ≡ between range.start range.end value) × (nat_le range.end (length value) ≡ true)

-- the range ends past the value, and is rejected for that
abbrev pub EndsOutside : List ℕ → ByteSpan → CodecError → Type 0
EndsOutside value range error = (error ≡ InvalidByteRange) × (nat_le range.end (length value) ≡ false)

-- the ranges' bytes of a value, joined in order
abbrev pub bytes_in_ranges : List ℕ → List ByteSpan → List ℕ
bytes_in_ranges value ranges = flat_map (λ range. between range.start range.end value) ranges

-- what reading ranges of a value answers: their bytes, where each range ends inside it
abbrev pub read_value : List ℕ → List ByteSpan → Result (List ℕ) CodecError
read_value value ranges = do
  _ ← demand (list_all (λ range. nat_le range.end (length value)) ranges) InvalidByteRange
  Ok (bytes_in_ranges value ranges)

-- what reading ranges of a handle answers: none, where nothing is stored
abbrev pub read_ranges : Option (List ℕ) → List ByteSpan → Result (Option (List ℕ)) CodecError
read_ranges None ranges = Ok None
read_ranges (Some value) ranges = do
  bytes ← read_value value ranges
  Ok (Some bytes)

-- both values have the byte of this number, and it is the same
pub record SameByte (value other : List ℕ) (number : ℕ) : Type 0 where
  pub in_value : number < length value
  pub in_other : number < length other
  pub same : slice_index value number ≡ slice_index other number
