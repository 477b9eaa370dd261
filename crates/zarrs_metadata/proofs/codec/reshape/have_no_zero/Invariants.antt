use Rattle.std.proofs.Common.{◌≡◌, drop, map}
use Rattle.zarrs_metadata.specs.Dims.{has_no_zero}
use Rattle.zarrs_metadata.specs.ReshapeShape.{dim_of}
use Rattle.zarrs_metadata.proofs.codec.reshape.have_no_zero.Given as goal

abbrev pub invariant-loop-dim : goal.invariant-loop-dim
invariant-loop-dim l = has_no_zero (map dim_of (drop l.dim-index l.dims)) ≡ has_no_zero (map dim_of l.dims)
