use Rattle.std.proofs.Common.{◌≡◌, ◌++◌, drop}
use Rattle.zarrs_grid.specs.ChunkTuples.{quotients}
use Rattle.zarrs_grid.proofs.chunk_grid.first_chunk.Given as goal

abbrev pub invariant-loop-axis : goal.invariant-loop-axis
invariant-loop-axis l = l.first.items ++ quotients (drop l.axis l.shape) (drop l.axis l.starts) ≡ quotients l.shape l.starts
