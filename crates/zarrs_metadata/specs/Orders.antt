-- Orders of axes: lists that name each of so many axes as they are long, once.
-- Source: the Zarr v3 codec `transpose`.
use Rattle.std.specs.Prelude.{◌≢◌, ℕ, ◌<◌, Bool, true, ◌&&◌, ◌==◌, not, nat_lt, List, [], ◌∷◌, length, slice_index}
use Rattle.std.specs.List.{list_all, list_any}

-- no axis comes twice
abbrev pub is_distinct : List ℕ → Bool
is_distinct [] = true
is_distinct (axis ∷ axes) = not (list_any (λ other. axis == other) axes) && is_distinct axes

-- each entry is one of as many axes as the list is long, counted from 0, and none comes twice
abbrev pub is_order : List ℕ → Bool
is_order order = list_all (λ axis. nat_lt axis (length order)) order && is_distinct order

-- entry by entry, the list is an order
pub record IsOrder (order : List ℕ) : Type 0 where
  pub below : (i : ℕ) → i < length order → slice_index order i < length order
  pub distinct : (i j : ℕ) → i < j → j < length order → slice_index order i ≢ slice_index order j
