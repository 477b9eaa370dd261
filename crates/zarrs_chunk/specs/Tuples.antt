-- Index tuples of a chunk, and their row-major numbers.
-- Source: the Zarr v3 core specification, chunks; zarrs, `ArraySubset`.
use Rattle.std.specs.Prelude.{ℕ, ◌+◌, ◌*◌, Bool, true, false, ◌&&◌, nat_lt, nat_le, List, [], ◌∷◌, map}
use Rattle.std.specs.List.{flat_map, range_with_len}
use Rattle.zarrs_chunk.specs.ChunkShape.{product}

-- the row-major number of a tuple in a chunk of these sizes: one step along an axis passes all elements of the axes after it
abbrev pub row_major : List ℕ → List ℕ → ℕ
row_major [] tuple = 0
row_major (size ∷ sizes) [] = 0
row_major (size ∷ sizes) (index ∷ tuple) = index * product sizes + row_major sizes tuple

-- the tuple has one number an axis, and each is below the axis's size
abbrev pub is_tuple_inside : List ℕ → List ℕ → Bool
is_tuple_inside [] [] = true
is_tuple_inside (size ∷ sizes) (index ∷ tuple) = nat_lt index size && is_tuple_inside sizes tuple
is_tuple_inside _ _ = false

-- the tuples of the box that begins at `starts` and is `lengths` long, in row-major order: the last axis is the fastest
abbrev pub box_tuples : List ℕ → List ℕ → List (List ℕ)
box_tuples [] lengths = [] ∷ []
box_tuples (start ∷ starts) [] = [] ∷ []
box_tuples (start ∷ starts) (len ∷ lengths) =
    flat_map (λ index. map (λ tuple. index ∷ tuple) (box_tuples starts lengths)) (range_with_len start len)

-- the box has one range an axis, and each ends within the axis's size
abbrev pub is_box_inside : List ℕ → List ℕ → List ℕ → Bool
is_box_inside [] [] [] = true
is_box_inside (size ∷ sizes) (start ∷ starts) (len ∷ lengths) =
    nat_le (start + len) size && is_box_inside sizes starts lengths
is_box_inside _ _ _ = false
