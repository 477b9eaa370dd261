use Rattle.std.proofs.Common.{◌≡◌, ◌++◌, drop}
use Rattle.zarrs_grid.specs.Parts.{part_lengths}
use Rattle.zarrs_grid.proofs.chunk_part.part_shape.Given as goal

abbrev pub invariant-loop-axis : goal.invariant-loop-axis
invariant-loop-axis l = l.found.items ++ part_lengths (drop l.axis l.shape) (drop l.axis l.chunk) (drop l.axis l.starts)
    (drop l.axis l.lengths) ≡ part_lengths l.shape l.chunk l.starts l.lengths
