-- The sizes of a chunk's axes.
-- Source: the Zarr v3 core specification, chunk grids.
use Rattle.std.specs.Prelude.{ℕ, ◌*◌, ◌==◌, Option, Some, None, List, [], ◌∷◌, if◌then◌else◌}
use Rattle.std.specs.List.{list_any}

-- how many elements a chunk of these sizes has; one, without axes
abbrev pub product : List ℕ → ℕ
product [] = 1
product (size ∷ sizes) = size * product sizes

-- these sizes as a shape, where none of them is zero
abbrev pub shape_of : List ℕ → Option (List ℕ)
shape_of sizes = if list_any (λ size. size == 0) sizes then None else Some sizes
