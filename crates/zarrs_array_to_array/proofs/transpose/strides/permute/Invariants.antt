use Rattle.std.proofs.Common.{◌≡◌, take}
use Rattle.zarrs_array_to_array.specs.Orders.{permuted}
use Rattle.zarrs_array_to_array.proofs.transpose.strides.permute.Given as goal

abbrev pub invariant-loop-axis : goal.invariant-loop-axis
invariant-loop-axis l = l.out.items ≡ permuted (take l.axis-index l.order) l.xs
