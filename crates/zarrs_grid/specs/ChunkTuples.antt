-- Which chunk of a regular grid has an element, and which element of that chunk it is.
-- Source: the Zarr v3 core specification, "Regular grids": "An element of an array with coordinates (c, b, a) will occur within the
-- chunk at grid index (c // dz, b // dy, a // dx)", and "will have coordinates (c % dz, b % dy, a % dx) within that chunk".
-- The array is one that is stored in many chunks, or a shard, whose inner chunks are then what is called chunks here.
use Rattle.std.specs.Prelude.{ℕ, ◌+◌, ◌*◌, ◌/◌, ◌%◌, List, [], ◌∷◌}

-- the indices of the chunk that has an index tuple of the array: axis by axis, how often the chunk's size goes into the index
abbrev pub quotients : List ℕ → List ℕ → List ℕ
quotients (size ∷ shape) (index ∷ tuple) = index / size ∷ quotients shape tuple
quotients shape tuple = []

-- the tuple in that chunk: what is left of each index
abbrev pub remainders : List ℕ → List ℕ → List ℕ
remainders (size ∷ shape) (index ∷ tuple) = index % size ∷ remainders shape tuple
remainders shape tuple = []

-- the tuple in the array of a tuple of the chunk of these indices
abbrev pub tuple_in_array : List ℕ → List ℕ → List ℕ → List ℕ
tuple_in_array (size ∷ shape) (number ∷ numbers) (index ∷ tuple) = (number * size + index) ∷ tuple_in_array shape numbers tuple
tuple_in_array shape numbers tuple = []
