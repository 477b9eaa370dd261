use Rattle.std.proofs.Common.{◌≡◌, ◌++◌, drop}
use Rattle.zarrs_array_to_array.specs.Squeeze.{above_one}
use Rattle.zarrs_array_to_array.proofs.squeeze.squeeze_codec.squeeze_sizes.Given as goal

abbrev pub invariant-loop-size : goal.invariant-loop-size
invariant-loop-size l = l.kept.items ++ above_one (drop l.size-index l.sizes) ≡ above_one l.sizes
