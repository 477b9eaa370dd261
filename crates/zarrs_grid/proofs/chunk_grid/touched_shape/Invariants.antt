use Rattle.std.proofs.Common.{◌≡◌, ◌++◌, drop}
use Rattle.zarrs_grid.specs.Touched.{touched_counts}
use Rattle.zarrs_grid.proofs.chunk_grid.touched_shape.Given as goal

abbrev pub invariant-loop-axis : goal.invariant-loop-axis
invariant-loop-axis l = l.counts.items ++ touched_counts (drop l.axis l.shape) (drop l.axis l.starts) (drop l.axis l.lengths) ≡ touched_counts l.shape l.starts l.lengths
