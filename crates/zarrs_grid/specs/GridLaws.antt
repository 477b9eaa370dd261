-- Laws of a grid: which chunks a region touches, and how the region's parts in them cut it.
use Rattle.std.specs.Prelude.{◌≡◌, ◌↔◌, ◌<◌, ◌^◌, true, ℕ, List, Contains, Ok}
use Rattle.zarrs_chunk.specs.ChunkShape.{product}
use Rattle.zarrs_chunk.specs.Indices.{indices_behind}
use Rattle.zarrs_chunk.specs.Region.{Region}
use Rattle.zarrs_chunk.specs.Tuples.{box_tuples, is_box_inside, is_tuple_inside}
use Rattle.zarrs_grid.specs.ChunkTuples.{quotients, tuple_in_array}
use Rattle.zarrs_grid.specs.Gathered.{places_in_list}
use Rattle.zarrs_grid.specs.Parts.{box_in_chunk, box_in_region}
use Rattle.zarrs_grid.specs.RegionElements.{places_in_chunk, places_in_region}
use Rattle.zarrs_grid.specs.Touched.{FitsGrid, touched_chunks}

-- The chunks that a region touches are those that have an element of it.
abbrev pub TouchedHaveElements : Type 0
TouchedHaveElements =
    (shape : List ℕ) (region : Region) (numbers : List ℕ) → FitsGrid shape region
    → Contains (touched_chunks shape region) numbers
    ↔ ((tuple : List ℕ) × Contains (box_tuples region.starts region.lengths) tuple × (quotients shape tuple ≡ numbers))

-- The box lies inside a shape.
abbrev pub IsInside : List ℕ → Region → Type 0
IsInside sizes box = is_box_inside sizes box.starts box.lengths ≡ true

-- The part of a region in the chunk of these indices is a box of the chunk and a box of the region, and each tuple of the part is the same tuple of the array by either box.
pub record IsPartOfBoth (shape : List ℕ) (region : Region) (numbers : List ℕ) : Type 0 where
  pub in_chunk : IsInside shape (box_in_chunk shape region numbers)
  pub in_region : IsInside region.lengths (box_in_region shape region numbers)
  pub same : (offset : List ℕ) → is_tuple_inside (box_in_region shape region numbers).lengths offset ≡ true
      → tuple_in_array shape numbers (indices_behind (box_in_chunk shape region numbers).starts offset)
      ≡ indices_behind region.starts (indices_behind (box_in_region shape region numbers).starts offset)

-- The tuple of a region lies in the region's part in the chunk of these indices, this far from where the part begins. Tuples of a region are counted from its first one.
pub record IsInPart (shape : List ℕ) (region : Region) (numbers tuple offset : List ℕ) : Type 0 where
  pub inside : is_tuple_inside (box_in_region shape region numbers).lengths offset ≡ true
  pub from_start : indices_behind (box_in_region shape region numbers).starts offset ≡ tuple

-- the indices of the chunk that has a tuple of a region
abbrev pub chunk_of_tuple : List ℕ → Region → List ℕ → List ℕ
chunk_of_tuple shape region tuple = quotients shape (indices_behind region.starts tuple)

-- The tuple of a region is in the part of the chunk that has it, and in that of no other chunk.
pub record IsInOnePart (shape : List ℕ) (region : Region) (tuple : List ℕ) : Type 0 where
  pub chunk : Contains (touched_chunks shape region) (chunk_of_tuple shape region tuple)
  pub part : (offset : List ℕ) × IsInPart shape region (chunk_of_tuple shape region tuple) tuple offset
  pub no_other : (numbers offset : List ℕ) → Contains (touched_chunks shape region) numbers
      → IsInPart shape region numbers tuple offset → numbers ≡ chunk_of_tuple shape region tuple

-- The region is cut into its parts: each part is one of its chunk and of the region, and each tuple of the region is in one part.
pub record IsCutInParts (shape : List ℕ) (region : Region) : Type 0 where
  pub parts : (numbers : List ℕ) → Contains (touched_chunks shape region) numbers → IsPartOfBoth shape region numbers
  pub tuples : (tuple : List ℕ) → is_tuple_inside region.lengths tuple ≡ true → IsInOnePart shape region tuple

-- The parts of a region in the chunks that it touches cut it.
abbrev pub PartsCutTheRegion : Type 0
PartsCutTheRegion = (shape : List ℕ) (region : Region) → FitsGrid shape region → IsCutInParts shape region

-- The elements of the part of a region in the chunk of these indices have places, by either of its boxes, where 64 bits count those of the whole: what is gathered or scattered there is the part, and no error is due.
pub record PartHasPlaces (shape : List ℕ) (region : Region) (numbers : List ℕ) : Type 0 where
  pub in_chunk : product shape < 2 ^ 64
      → places_in_list (product shape) shape (box_in_chunk shape region numbers) ≡ Ok (places_in_chunk shape region numbers)
  pub in_region : product region.lengths < 2 ^ 64
      → places_in_list (product region.lengths) region.lengths (box_in_region shape region numbers) ≡ Ok (places_in_region shape region numbers)

-- The part of a region in each chunk that it touches has places.
abbrev pub PartsHavePlaces : Type 0
PartsHavePlaces =
    (shape : List ℕ) (region : Region) (numbers : List ℕ) → FitsGrid shape region
    → Contains (touched_chunks shape region) numbers → PartHasPlaces shape region numbers
