-- The chunks of a grid that a region of the array touches: a box of chunk indices.
-- Source: the Zarr v3 core specification, "Regular grids"; zarrs, `ChunkGridTraits::chunks_in_array_subset`.
use Rattle.std.specs.Prelude.{◌≡◌, ℕ, zero, suc, ◌<◌, ◌+◌, ◌-◌, ◌/◌, ◌==◌, ◌&&◌, nat_le, nat_lt, Bool, true, false, List, [], ◌∷◌, length, All, Result, Ok}
use Rattle.zarrs_chunk.specs.Answer.{◌>>=◌, demand}
use Rattle.zarrs_chunk.specs.Region.{Region}
use Rattle.zarrs_chunk.specs.Tuples.{box_tuples}
use Rattle.zarrs_chunk.specs.declared.codec_error.CodecError.{CodecError}
use Rattle.zarrs_chunk.specs.declared.codec_error.CodecError.TheVariants.{IncompatibleDimensionality, OutOfBounds}
use Rattle.zarrs_grid.specs.ChunkTuples.{quotients}

-- The shape of a grid's chunks, and a region of as many axes. No size of a chunk is zero.
pub record FitsGrid (shape : List ℕ) (region : Region) : Type 0 where
  pub positive : All (λ size. 0 < size) shape
  pub starts : length region.starts ≡ length shape
  pub lengths : length region.lengths ≡ length shape

-- how many chunks of one size a range of an axis touches, from the chunk of its first index to that of its last one; none where it is empty
abbrev pub touched_count : ℕ → ℕ → ℕ → ℕ
touched_count size start zero = 0
touched_count size start (suc more) = suc ((start + more) / size - start / size)

-- how many chunks a region touches along each axis
abbrev pub touched_counts : List ℕ → List ℕ → List ℕ → List ℕ
touched_counts (size ∷ shape) (start ∷ starts) (len ∷ lengths) = touched_count size start len ∷ touched_counts shape starts lengths
touched_counts shape starts lengths = []

-- the box of the indices of the chunks that a region touches
abbrev pub touched : List ℕ → Region → Region
touched shape region = record {
  starts = quotients shape region.starts;
  lengths = touched_counts shape region.starts region.lengths;
}

-- the indices of the chunks that a region touches, in row-major order
abbrev pub touched_chunks : List ℕ → Region → List (List ℕ)
touched_chunks shape region = box_tuples (quotients shape region.starts) (touched_counts shape region.starts region.lengths)

-- the box of the chunks that a region touches, or the error: it has a range for each axis of the chunks
abbrev pub checked_touched : List ℕ → Region → Result Region CodecError
checked_touched shape region = do
  _ ← demand (length region.starts == length shape) IncompatibleDimensionality
  Ok (touched shape region)

-- the box has the tuple: there is one number an axis, and each is in the range of its axis
abbrev pub is_in_box : List ℕ → List ℕ → List ℕ → Bool
is_in_box [] [] [] = true
is_in_box (start ∷ starts) (len ∷ lengths) (index ∷ tuple) =
    (nat_le start index && nat_lt index (start + len)) && is_in_box starts lengths tuple
is_in_box _ _ _ = false

-- a region touches the chunk of these indices, or the first error: it has a range for each axis of the chunks, and their box has the indices
abbrev pub checked_chunk : List ℕ → Region → List ℕ → Result (Unit {0}) CodecError
checked_chunk shape region numbers = do
  chunks ← checked_touched shape region
  demand (is_in_box chunks.starts chunks.lengths numbers) OutOfBounds
