use Rattle.std.proofs.Common.{◌≡◌, ◌++◌, drop}
use Rattle.zarrs_array_plan.specs.ArrayForm.{grid_shape}
use Rattle.zarrs_array_plan.proofs.array_grid.counts.Given as goal

abbrev pub invariant-loop-axis : goal.invariant-loop-axis
invariant-loop-axis l = l.found.items ++ grid_shape (drop l.axis l.sizes) (drop l.axis l.chunk_shape) ≡ grid_shape l.sizes l.chunk_shape
