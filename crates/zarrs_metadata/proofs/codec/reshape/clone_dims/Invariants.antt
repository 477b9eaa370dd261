use Rattle.std.proofs.Common.{◌≡◌, take, map}
use Rattle.zarrs_metadata.specs.ReshapeShape.{dim_of}
use Rattle.zarrs_metadata.proofs.codec.reshape.clone_dims.Given as goal

abbrev pub invariant-loop-dim : goal.invariant-loop-dim
invariant-loop-dim l = map dim_of l.copies.items ≡ map dim_of (take l.dim-index l.dims)
