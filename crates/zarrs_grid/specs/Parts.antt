-- The part of a region that lies in one chunk: a box in the chunk, and a box in the region.
-- Source: zarrs, `ArraySubset::overlap` and `relative_to`.
use Rattle.std.specs.Prelude.{◌≡◌, ℕ, ◌+◌, ◌-◌, ◌*◌, ◌^◌, ◌<◌, min, max, List, [], ◌∷◌, length, slice_index}
use Rattle.zarrs_chunk.specs.Region.{Region}
use Rattle.zarrs_grid.specs.declared.chunk_part.ChunkPart.{ChunkPart}

-- the first index of a range that lies in the chunk of a number along its axis
abbrev pub part_from : ℕ → ℕ → ℕ → ℕ
part_from size number start = max start (number * size)

-- the index behind the last one that lies there
abbrev pub part_to : ℕ → ℕ → ℕ → ℕ → ℕ
part_to size number start len = min (start + len) (number * size + size)

-- The chunk of these indices and the region have an index in common along each axis, and 64 bits hold where the region ends.
pub record MeetByAxis (shape numbers starts lengths : List ℕ) : Type 0 where
  pub axes : length numbers ≡ length shape
  pub starts_axes : length starts ≡ length shape
  pub lengths_axes : length lengths ≡ length shape
  pub ends : (axis : ℕ) → axis < length shape → slice_index starts axis + slice_index lengths axis < 2 ^ 64
  pub begins : (axis : ℕ) → axis < length shape
      → slice_index numbers axis * slice_index shape axis < slice_index starts axis + slice_index lengths axis
  pub reaches : (axis : ℕ) → axis < length shape
      → slice_index starts axis < slice_index numbers axis * slice_index shape axis + slice_index shape axis

-- where the part begins in the chunk
abbrev pub starts_in_chunk : List ℕ → List ℕ → List ℕ → List ℕ
starts_in_chunk (size ∷ shape) (number ∷ numbers) (start ∷ starts) =
    (part_from size number start - number * size) ∷ starts_in_chunk shape numbers starts
starts_in_chunk shape numbers starts = []

-- where the part begins in the region, whose first tuple is all zeros
abbrev pub starts_in_region : List ℕ → List ℕ → List ℕ → List ℕ
starts_in_region (size ∷ shape) (number ∷ numbers) (start ∷ starts) =
    (part_from size number start - start) ∷ starts_in_region shape numbers starts
starts_in_region shape numbers starts = []

-- how long the part is along each axis
abbrev pub part_lengths : List ℕ → List ℕ → List ℕ → List ℕ → List ℕ
part_lengths (size ∷ shape) (number ∷ numbers) (start ∷ starts) (len ∷ lengths) =
    (part_to size number start len - part_from size number start) ∷ part_lengths shape numbers starts lengths
part_lengths shape numbers starts lengths = []

-- the part as a box of the chunk
abbrev pub box_in_chunk : List ℕ → Region → List ℕ → Region
box_in_chunk shape region numbers = record {
  starts = starts_in_chunk shape numbers region.starts;
  lengths = part_lengths shape numbers region.starts region.lengths;
}

-- the part as a box of the region, whose first tuple is all zeros
abbrev pub box_in_region : List ℕ → Region → List ℕ → Region
box_in_region shape region numbers = record {
  starts = starts_in_region shape numbers region.starts;
  lengths = part_lengths shape numbers region.starts region.lengths;
}

-- this is the part of a region in the chunk of these indices
pub record IsChunkPart (shape : List ℕ) (region : Region) (numbers : List ℕ) (it : ChunkPart) : Type 0 where
  pub chunk : it.chunk.items ≡ numbers
  pub in_chunk : it.in_chunk ≡ box_in_chunk shape region numbers
  pub in_region : it.in_region ≡ box_in_region shape region numbers
