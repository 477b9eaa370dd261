-- Tiles of elements, each row of which is a vector of sixteen bytes.
use Rattle.std.specs.Prelude.{◌≡◌, ℕ, ◌+◌, ◌<◌, ◌⊎◌, List, [], ◌∷◌, ◌++◌, take, drop, length, map, slice_index_or}
use Rattle.std.specs.List.{flat_map, range_with_len}
use Rattle.zarrs_array_to_array.specs.Axes.{stretch, stretches_at}
use Rattle.zarrs_array_to_array.specs.Strides.{row}

-- elements of so many bytes are turned tile by tile
abbrev pub HasTiles : ℕ → Type 0
HasTiles size = (size ≡ 1) ⊎ ((size ≡ 2) ⊎ ((size ≡ 4) ⊎ (size ≡ 8)))

-- each of these vectors has sixteen bytes
abbrev pub AreVectors : List (List ℕ) → Type 0
AreVectors vectors = (k : ℕ) → k < length vectors → length (slice_index_or vectors k []) ≡ 16

-- so many elements of one vector and of another, from an index on, in turn
abbrev pub interleaved : ℕ → ℕ → ℕ → List ℕ → List ℕ → List ℕ
interleaved size from count one other =
    flat_map (λ k. stretch size size one k ++ stretch size size other k) (range_with_len from count)

-- the element at an index of each of these vectors, one behind another
abbrev pub column : ℕ → List (List ℕ) → ℕ → List ℕ
column size vectors k = flat_map (λ vector. stretch size size vector k) vectors

-- the first so many columns of these vectors
abbrev pub columns : ℕ → ℕ → List (List ℕ) → List (List ℕ)
columns size count vectors = map (column size vectors) (range_with_len 0 count)

-- so many elements of each of so many rows, which begin one behind another
abbrev pub turned_rows : ℕ → ℕ → ℕ → ℕ → List ℕ → List (List ℕ)
turned_rows size front step count items =
    map (λ k. stretches_at size size items (row (front + k) step count)) (range_with_len 0 count)

-- rows of `len` bytes, into each of which a vector is written behind its first `at` bytes
abbrev pub with_vectors : ℕ → ℕ → List (List ℕ) → List ℕ → List ℕ
with_vectors len at [] items = items
with_vectors len at (vector ∷ vectors) items =
    (take at items ++ (vector ++ drop (at + 16) (take len items))) ++ with_vectors len at vectors (drop len items)
