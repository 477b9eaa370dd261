use Rattle.std.proofs.Common.{◌≡◌, ◌++◌, drop}
use Rattle.zarrs_array_to_array.specs.Squeeze.{kept_indices}
use Rattle.zarrs_array_to_array.proofs.squeeze.squeeze_codec.kept_indices.Given as goal

abbrev pub invariant-loop-axis : goal.invariant-loop-axis
invariant-loop-axis l = l.kept.items ++ kept_indices (drop l.axis l.sizes) (drop l.axis l.indices) ≡ kept_indices l.sizes l.indices
