-- The elements of a region, put together part by part.
use Rattle.std.specs.Prelude.{◌≡◌, ℕ, ◌<◌, List, ◌∷◌, length, get_or, Contains}
use Rattle.zarrs_array_bytes.specs.Update.{update}
use Rattle.zarrs_chunk.specs.ChunkShape.{product}
use Rattle.zarrs_chunk.specs.Indices.{box_tuple}
use Rattle.zarrs_chunk.specs.Region.{Region}
use Rattle.zarrs_grid.specs.ChunkTuples.{quotients}
use Rattle.zarrs_grid.specs.RegionElements.{region_elements, elements_of_part, places_in_region}
use Rattle.zarrs_grid.specs.Touched.{FitsGrid, touched_chunks}

-- the indices of the chunk that has the element at this place of a region
abbrev pub chunk_of_place : List ℕ → Region → ℕ → List ℕ
chunk_of_place shape region place = quotients shape (box_tuple region.starts region.lengths place)

-- The answer is as long as the region has elements, and has the array's element at each place that is of one of these chunks. At other places anything may stand.
pub record HasChunks {A : Type 0} (element : List ℕ → A) (shape : List ℕ) (region : Region) (chunks : List (List ℕ)) (answer : List A) : Type 0 where
  pub long : length answer ≡ product region.lengths
  pub each : (place : ℕ) (default : A) → place < product region.lengths → Contains chunks (chunk_of_place shape region place)
      → get_or answer place default ≡ element (box_tuple region.starts region.lengths place)

-- An answer that has the elements of some chunks has those of one chunk more, once what a read of its part gives is written at the part's places.
abbrev pub PartIsJoined : Type 0 → Type 0
PartIsJoined A =
    (element : List ℕ → A) (shape : List ℕ) (region : Region) (numbers : List ℕ) (chunks : List (List ℕ)) (answer : List A)
    → FitsGrid shape region → Contains (touched_chunks shape region) numbers
    → HasChunks element shape region chunks answer
    → HasChunks element shape region (numbers ∷ chunks)
    (update answer (places_in_region shape region numbers) (elements_of_part element shape region numbers))

-- With those of all chunks that the region touches, in whatever order they came, the answer is the region's elements in order.
abbrev pub AllPartsAreJoined : Type 0 → Type 0
AllPartsAreJoined A =
    (element : List ℕ → A) (shape : List ℕ) (region : Region) (chunks : List (List ℕ)) (answer : List A) → FitsGrid shape region
    → ((numbers : List ℕ) → Contains (touched_chunks shape region) numbers → Contains chunks numbers)
    → HasChunks element shape region chunks answer
    → answer ≡ region_elements element region
