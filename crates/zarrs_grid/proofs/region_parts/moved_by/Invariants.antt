use Rattle.std.proofs.Common.{◌≡◌, ◌++◌, drop}
use Rattle.zarrs_chunk.specs.Indices.{indices_behind}
use Rattle.zarrs_grid.proofs.region_parts.moved_by.Given as goal

abbrev pub invariant-loop-axis : goal.invariant-loop-axis
invariant-loop-axis l = l.moved.items ++ indices_behind (drop l.axis l.starts) (drop l.axis l.tuple) ≡ indices_behind l.starts l.tuple
