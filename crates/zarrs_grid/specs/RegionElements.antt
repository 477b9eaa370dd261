-- The elements of a region and of its parts, of an array that is seen as the element at each index tuple.
use Rattle.std.specs.Prelude.{ℕ, List, map, length, replicate}
use Rattle.zarrs_chunk.specs.Levels.{box_places}
use Rattle.zarrs_chunk.specs.Region.{Region}
use Rattle.zarrs_chunk.specs.Tuples.{box_tuples}
use Rattle.zarrs_grid.specs.ChunkTuples.{tuple_in_array}
use Rattle.zarrs_grid.specs.Parts.{starts_in_chunk, starts_in_region, part_lengths, box_in_chunk}

-- the elements of a region, in row-major order
abbrev pub region_elements : {A : Type 0} → (List ℕ → A) → Region → List A
region_elements element region = map element (box_tuples region.starts region.lengths)

-- the array as the chunk of these indices has it: the element at each tuple of the chunk
abbrev pub chunk_element : {A : Type 0} → (List ℕ → A) → List ℕ → List ℕ → List ℕ → A
chunk_element element shape numbers tuple = element (tuple_in_array shape numbers tuple)

-- all elements of the chunk of these indices, in row-major order
abbrev pub chunk_elements : {A : Type 0} → (List ℕ → A) → List ℕ → List ℕ → List A
chunk_elements element shape numbers = map (chunk_element element shape numbers) (box_tuples (replicate (length shape) 0) shape)

-- what a read of a chunk gives of the region's part in it: the chunk's elements in the box, in row-major order
abbrev pub elements_of_part : {A : Type 0} → (List ℕ → A) → List ℕ → Region → List ℕ → List A
elements_of_part element shape region numbers = region_elements (chunk_element element shape numbers) (box_in_chunk shape region numbers)

-- where the part's elements stand among those of the chunk
abbrev pub places_in_chunk : List ℕ → Region → List ℕ → List ℕ
places_in_chunk shape region numbers =
    box_places shape (starts_in_chunk shape numbers region.starts) (part_lengths shape numbers region.starts region.lengths)

-- where the part's elements stand among those of the region
abbrev pub places_in_region : List ℕ → Region → List ℕ → List ℕ
places_in_region shape region numbers =
    box_places region.lengths (starts_in_region shape numbers region.starts) (part_lengths shape numbers region.starts region.lengths)
