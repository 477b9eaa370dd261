-- An array as its chunks: the elements of the chunk of each list of indices.
use Rattle.std.specs.Prelude.{◌≡◌, ℕ, List, length, get_or, Contains}
use Rattle.zarrs_array_bytes.specs.Elements.{select}
use Rattle.zarrs_array_bytes.specs.Update.{update}
use Rattle.zarrs_chunk.specs.ChunkShape.{product}
use Rattle.zarrs_chunk.specs.Region.{Region}
use Rattle.zarrs_chunk.specs.Tuples.{row_major}
use Rattle.zarrs_data_type.specs.Element.{Chunk, Element, absent}
use Rattle.zarrs_grid.specs.ChunkTuples.{quotients, remainders}
use Rattle.zarrs_grid.specs.RegionElements.{elements_of_part, places_in_chunk}
use Rattle.zarrs_grid.specs.RegionWrites.{new_of_part, IsRegionWritten}
use Rattle.zarrs_grid.specs.Touched.{FitsGrid, touched_chunks}

-- the element at an index tuple of the array: that of the chunk that has the tuple, where it stands there
abbrev pub element_by_chunks : List ℕ → (List ℕ → Chunk) → List ℕ → Element
element_by_chunks chunk_shape chunks tuple =
    get_or (chunks (quotients chunk_shape tuple)) (row_major chunk_shape (remainders chunk_shape tuple)) absent

-- What a read of a part's box of its chunk gives are the array's elements in the part.
abbrev pub PartsAreRead : Type 0
PartsAreRead =
    (chunks : List ℕ → Chunk) (chunk_shape : List ℕ) (region : Region) (numbers : List ℕ) → FitsGrid chunk_shape region
    → Contains (touched_chunks chunk_shape region) numbers
    → elements_of_part (element_by_chunks chunk_shape chunks) chunk_shape region numbers
    ≡ select (chunks numbers) (places_in_chunk chunk_shape region numbers)

-- Each chunk that the region touches is whole, and has its part's new elements at the part's places, and its old ones elsewhere; no other chunk was written.
pub record ArePartsWritten (chunk_shape : List ℕ) (region : Region) (new : Chunk) (old now : List ℕ → Chunk) : Type 0 where
  pub whole : (numbers : List ℕ) → Contains (touched_chunks chunk_shape region) numbers → length (old numbers) ≡ product chunk_shape
  pub touched : (numbers : List ℕ) → Contains (touched_chunks chunk_shape region) numbers
      → now numbers ≡ update (old numbers) (places_in_chunk chunk_shape region numbers) (new_of_part chunk_shape region numbers new absent)
  pub others : (numbers : List ℕ) → (Contains (touched_chunks chunk_shape region) numbers → ⊥) → now numbers ≡ old numbers

-- Where its part of a region's new elements is written into each chunk that the region touches, and no other chunk is written, the array has the new elements in the region, in order, and its old ones elsewhere.
abbrev pub PartsWriteTheRegion : Type 0
PartsWriteTheRegion =
    (chunk_shape : List ℕ) (region : Region) (new : Chunk) (old now : List ℕ → Chunk) → FitsGrid chunk_shape region
    → ArePartsWritten chunk_shape region new old now
    → IsRegionWritten (element_by_chunks chunk_shape old) (element_by_chunks chunk_shape now) region new absent
