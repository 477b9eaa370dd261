use Rattle.std.proofs.Common.{◌≡◌, take}
use Rattle.zarrs_chunk.specs.Indices.{indices_behind}
use Rattle.zarrs_array_to_array.specs.Orders.{permuted}
use Rattle.zarrs_array_to_array.proofs.boxes.indices_behind.Given as goal

abbrev pub invariant-loop-axis : goal.invariant-loop-axis
invariant-loop-axis l = l.indices.items ≡ permuted (take l.axis-index l.order) (indices_behind l.starts l.tuple)
