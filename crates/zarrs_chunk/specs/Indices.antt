-- Tuples by their numbers, and numbers by their tuples.
-- Source: zarrs, `unravel_index`.
use Rattle.std.specs.Prelude.{◌≡◌, ℕ, ◌+◌, ◌/◌, ◌%◌, ◌≤◌, true, Option, Some, None, List, [], ◌∷◌}
use Rattle.zarrs_chunk.specs.ChunkShape.{product}
use Rattle.zarrs_chunk.specs.Tuples.{row_major, is_tuple_inside}

-- the tuple of a number: so many steps along an axis as the number passes all elements of the axes after it
abbrev pub tuple_of_number : List ℕ → ℕ → List ℕ
tuple_of_number [] number = []
tuple_of_number (size ∷ sizes) number = number / product sizes ∷ tuple_of_number sizes (number % product sizes)

-- each index behind its start
abbrev pub indices_behind : List ℕ → List ℕ → List ℕ
indices_behind (start ∷ starts) (index ∷ tuple) = (start + index) ∷ indices_behind starts tuple
indices_behind starts tuple = []

-- the tuple of a box that has this number among the box's tuples
abbrev pub box_tuple : List ℕ → List ℕ → ℕ → List ℕ
box_tuple starts lengths number = indices_behind starts (tuple_of_number lengths number)

-- what was found is the tuple inside that has this number; nothing, where the number lies past the chunk's end
abbrev pub IsTupleOfNumber : List ℕ → ℕ → Option (List ℕ) → Type 0
IsTupleOfNumber sizes number None = product sizes ≤ number
IsTupleOfNumber sizes number (Some tuple) = (is_tuple_inside sizes tuple ≡ true) × (row_major sizes tuple ≡ number)
