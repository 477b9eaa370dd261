-- A window of a shard by the inner chunks that it touches: each has a part of it, a box of that inner chunk.
-- The inner chunks are a grid's chunks, and the shard is the array that they divide.
use Rattle.std.specs.List.{All, Contains}
use Rattle.std.specs.Prelude.{◌≡◌, ◌<◌, ℕ, true, List, [], ◌∷◌, length, map}
use Rattle.zarrs_array_bytes.specs.Update.{update}
use Rattle.zarrs_chain_meaning.specs.sharding.InnerChunks.{is_divided, grid, inner_chunk_count, inner_chunk_of, place_inside}
use Rattle.zarrs_chunk.specs.ChunkShape.{product}
use Rattle.zarrs_chunk.specs.Levels.{box_places}
use Rattle.zarrs_chunk.specs.Region.{Region}
use Rattle.zarrs_chunk.specs.Tuples.{row_major, is_box_inside, is_tuple_inside}
use Rattle.zarrs_grid.specs.Parts.{box_in_chunk, box_in_region}
use Rattle.zarrs_grid.specs.RegionElements.{places_in_chunk, places_in_region}
use Rattle.zarrs_grid.specs.Touched.{touched_chunks}
use Rattle.zarrs_shard_runs.specs.PlacesInside.{groups_of}

-- The shard is divided into inner chunks, none of whose sizes is zero, and the window is a box of the shard that has elements.
pub record IsShardWindow (shape sizes : List ℕ) (window : Region) : Type 0 where
  pub divided : is_divided shape sizes ≡ true
  pub positive : All (λ part. 0 < part) shape
  pub inside : is_box_inside sizes window.starts window.lengths ≡ true
  pub filled : 0 < product window.lengths

-- the inner chunks that a window touches, each with the places of the window in it, in the order of their numbers
abbrev pub box_groups : List ℕ → List ℕ → Region → List (ℕ × List ℕ)
box_groups shape sizes window =
    map (λ numbers. (row_major (grid shape sizes) numbers, places_in_chunk shape window numbers)) (touched_chunks shape window)

-- an answer for a window, once what `part` gives of each of these inner chunks is put at the places of the window's part in it, one after the other
abbrev pub put_parts : {A : Type 0} → (List ℕ → List A) → List ℕ → Region → List (List ℕ) → List A → List A
put_parts part shape window [] answer = answer
put_parts part shape window (numbers ∷ rest) answer =
    put_parts part shape window rest (update answer (places_in_region shape window numbers) (part numbers))

-- The window's part in the inner chunk of these indices: the inner chunk is one of those of the shard, and the part has elements and is a box of it and of the window.
pub record IsPlacedPart (shape sizes : List ℕ) (window : Region) (numbers : List ℕ) : Type 0 where
  pub number : row_major (grid shape sizes) numbers < inner_chunk_count shape sizes
  pub numbered : is_tuple_inside (grid shape sizes) numbers ≡ true
  pub inside : is_box_inside shape (box_in_chunk shape window numbers).starts (box_in_chunk shape window numbers).lengths ≡ true
  pub filled : 0 < product (box_in_chunk shape window numbers).lengths
  pub in_region : is_box_inside window.lengths (box_in_region shape window numbers).starts (box_in_region shape window numbers).lengths ≡ true

-- The inner chunks that a window touches, with their parts of it, are the inner chunks that have any of its places.
abbrev pub BoxesAreGrouped : Type 0
BoxesAreGrouped =
    (shape sizes : List ℕ) (window : Region) → IsShardWindow shape sizes window
    → box_groups shape sizes window ≡ groups_of shape sizes (box_places sizes window.starts window.lengths)

-- The window's part in each inner chunk that it touches is so placed.
abbrev pub PartsArePlaced : Type 0
PartsArePlaced =
    (shape sizes : List ℕ) (window : Region) (numbers : List ℕ) → IsShardWindow shape sizes window
    → Contains (touched_chunks shape window) numbers → IsPlacedPart shape sizes window numbers

-- what is read of the window's part in the inner chunk of these indices, where `read` gives the element at a place of an inner chunk
abbrev pub read_part : {A : Type 0} → (ℕ → ℕ → A) → List ℕ → List ℕ → Region → List ℕ → List A
read_part read shape sizes window numbers = map (read (row_major (grid shape sizes) numbers)) (places_in_chunk shape window numbers)

-- An answer as long as the window has elements is the window's elements in order, once what is read of each part is put at its places.
abbrev pub PartsArePut : Type 0 → Type 0
PartsArePut A =
    (read : ℕ → ℕ → A) (shape sizes : List ℕ) (window : Region) (answer : List A) → IsShardWindow shape sizes window
    → length answer ≡ product window.lengths
    → put_parts (read_part read shape sizes window) shape window (touched_chunks shape window) answer
    ≡ map (λ place. read (inner_chunk_of shape sizes place) (place_inside shape sizes place)) (box_places sizes window.starts window.lengths)
