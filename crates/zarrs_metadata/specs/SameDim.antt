-- Whether two sizes of a reshape are the same.
use Rattle.std.specs.Prelude.{Bool, true, false}
use Rattle.std.specs.Bool.{nat_eq}
use Rattle.std.specs.Cmp.Lexicographic.{pointwise}
use Rattle.zarrs_metadata.specs.Dims.{Dim, size, auto, input_dims}

-- both are the same number; both are what the others leave; or both name the same axes in the same order
abbrev pub is_same_dim : Dim → Dim → Bool
is_same_dim (size n) (size m) = nat_eq n m
is_same_dim auto auto = true
is_same_dim (input_dims axes) (input_dims others) = pointwise nat_eq axes others
is_same_dim _ _ = false
