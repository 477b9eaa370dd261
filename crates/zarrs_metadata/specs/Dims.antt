-- The sizes that a reshape gives a chunk, as plain data.
-- Source: zarr-extensions, `reshape`.
use Rattle.std.specs.Prelude.{◌≡◌, ℕ, suc, ◌<◌, Bool, true, false, not, ◌==◌, ◌&&◌, nat_le, List, [], ◌∷◌, Some, slice_get}
use Rattle.std.specs.List.{list_all}

-- One size: a number; what the other sizes leave of the number of elements; or the product of the sizes that these axes have in the chunk that is reshaped.
pub data Dim : Type 0 where
  size : ℕ → Dim
  auto : Dim
  input_dims : List ℕ → Dim

-- the size isn't the number zero
abbrev pub is_nonzero : Dim → Bool
is_nonzero (size n) = not (n == 0)
is_nonzero dim = true

-- the size is what the others leave
abbrev pub is_auto : Dim → Bool
is_auto (size n) = false
is_auto auto = true
is_auto (input_dims axes) = false

-- the size is the product of those of named axes
abbrev pub names_axes : Dim → Bool
names_axes (size n) = false
names_axes auto = false
names_axes (input_dims axes) = true

-- no size is the number zero
abbrev pub has_no_zero : List Dim → Bool
has_no_zero dims = list_all is_nonzero dims

-- how many sizes are what the others leave
abbrev pub autos : List Dim → ℕ
autos [] = 0
autos (auto ∷ dims) = suc (autos dims)
autos (dim ∷ dims) = autos dims

-- at most one size is what the others leave, and none is the number zero
abbrev pub is_reshape : List Dim → Bool
is_reshape dims = nat_le (autos dims) 1 && has_no_zero dims

-- size by size, at most one is what the others leave, and none is the number zero
pub record IsReshape (dims : List Dim) : Type 0 where
  pub positive : (i n : ℕ) → slice_get dims i ≡ Some (size n) → 0 < n
  pub one_auto : (i j : ℕ) → slice_get dims i ≡ Some auto → slice_get dims j ≡ Some auto → i ≡ j
