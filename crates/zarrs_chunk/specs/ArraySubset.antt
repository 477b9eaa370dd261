-- A box of index tuples: one range an axis.
-- Source: zarrs, `ArraySubset`.
use Rattle.std.specs.Prelude.{ℕ, ◌+◌, ◌-◌, ◌^◌, ◌==◌, nat_le, nat_lt, List, map, length, Result, Ok, Bool}
use Rattle.std.specs.List.{list_all, zip}
use Rattle.std.specs.declared.ops.Range.{Range}
use Rattle.zarrs_chunk.specs.Answer.{◌>>=◌, demand}
use Rattle.zarrs_chunk.specs.declared.codec_error.CodecError.{CodecError}
use Rattle.zarrs_chunk.specs.declared.codec_error.CodecError.TheVariants.{IncompatibleDimensionality, Overflow, ReversedRange}
use Rattle.zarrs_chunk.specs.Region.{Region}

-- the box of these ranges, or the error: none may end before it starts
abbrev pub subset_of_ranges : List (Range ℕ) → Result Region CodecError
subset_of_ranges ranges = do
  _ ← demand (list_all (λ range. nat_le range.start range.end) ranges) ReversedRange
  Ok (record { starts = map (λ range. range.start) ranges; lengths = map (λ range. range.end - range.start) ranges })

-- each range of the box ends where 64 bits hold it
abbrev pub ends_fit : List ℕ → List ℕ → Bool
ends_fit starts lengths = list_all (λ range. nat_lt (range.0 + range.1) (2 ^ 64)) (zip starts lengths)

-- the box that begins at these starts and has these lengths, or the first error: there is one of each for every axis, and 64 bits hold the ends
abbrev pub subset_of_start_shape : List ℕ → List ℕ → Result Region CodecError
subset_of_start_shape starts lengths = do
  _ ← demand (length starts == length lengths) IncompatibleDimensionality
  _ ← demand (ends_fit starts lengths) Overflow
  Ok (record { starts = starts; lengths = lengths })
