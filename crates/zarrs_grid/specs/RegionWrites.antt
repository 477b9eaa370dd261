-- An array whose chunks are written, each where a region lies in it.
use Rattle.std.specs.Prelude.{◌≡◌, ◌<◌, ℕ, true, List, length, get_or, Contains}
use Rattle.zarrs_array_bytes.specs.Update.{update}
use Rattle.zarrs_chunk.specs.ChunkShape.{product}
use Rattle.zarrs_chunk.specs.Indices.{box_tuple}
use Rattle.zarrs_chunk.specs.Region.{Region}
use Rattle.zarrs_chunk.specs.Tuples.{row_major, box_tuples, is_tuple_inside}
use Rattle.zarrs_grid.specs.ChunkTuples.{tuple_in_array}
use Rattle.zarrs_grid.specs.Gathered.{items_at}
use Rattle.zarrs_grid.specs.RegionElements.{chunk_elements, places_in_chunk, places_in_region}
use Rattle.zarrs_grid.specs.Touched.{FitsGrid, touched_chunks}

-- those of a region's new elements that are the part's in the chunk of these indices, in order
abbrev pub new_of_part : {A : Type 0} → List ℕ → Region → List ℕ → List A → A → List A
new_of_part shape region numbers new default = items_at new (places_in_region shape region numbers) default

-- the elements of the chunk of these indices, with the part's new ones at its places
abbrev pub chunk_with_part : {A : Type 0} → (List ℕ → A) → List ℕ → Region → List ℕ → List A → A → List A
chunk_with_part element shape region numbers new default =
    update (chunk_elements element shape numbers) (places_in_chunk shape region numbers) (new_of_part shape region numbers new default)

-- Each chunk that a region touches has its part's new elements, at the part's places, and its old ones elsewhere; no other chunk was written.
pub record AreChunksWritten {A : Type 0} (old now : List ℕ → A) (shape : List ℕ) (region : Region) (new : List A) (default : A) : Type 0 where
  pub touched : (numbers tuple : List ℕ) → Contains (touched_chunks shape region) numbers → is_tuple_inside shape tuple ≡ true
      → now (tuple_in_array shape numbers tuple)
      ≡ get_or (chunk_with_part old shape region numbers new default) (row_major shape tuple) default
  pub others : (numbers tuple : List ℕ) → length numbers ≡ length shape → (Contains (touched_chunks shape region) numbers → ⊥)
      → is_tuple_inside shape tuple ≡ true → now (tuple_in_array shape numbers tuple) ≡ old (tuple_in_array shape numbers tuple)

-- The array has the new elements in the region, in order, and its old ones elsewhere.
pub record IsRegionWritten {A : Type 0} (old now : List ℕ → A) (region : Region) (new : List A) (default : A) : Type 0 where
  pub inside : (place : ℕ) → place < product region.lengths
      → now (box_tuple region.starts region.lengths place) ≡ get_or new place default
  pub others : (tuple : List ℕ) → length tuple ≡ length region.starts
      → (Contains (box_tuples region.starts region.lengths) tuple → ⊥) → now tuple ≡ old tuple

-- A write of its part into each chunk that a region touches writes the region.
abbrev pub WritesChangeTheRegion : Type 0 → Type 0
WritesChangeTheRegion A =
    (old now : List ℕ → A) (shape : List ℕ) (region : Region) (new : List A) (default : A) → FitsGrid shape region
    → AreChunksWritten old now shape region new default → IsRegionWritten old now region new default
