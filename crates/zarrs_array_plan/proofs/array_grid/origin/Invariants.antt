use Rattle.std.proofs.Common.{◌≡◌, ◌++◌, drop}
use Rattle.zarrs_array_plan.specs.ArrayForm.{origin_of}
use Rattle.zarrs_array_plan.proofs.array_grid.origin.Given as goal

abbrev pub invariant-loop-axis : goal.invariant-loop-axis
invariant-loop-axis l = l.found.items ++ origin_of (drop l.axis l.chunk) (drop l.axis l.chunk_shape) ≡ origin_of l.chunk l.chunk_shape
