use Rattle.std.proofs.Common.{◌≡◌, ◌++◌, drop}
use Rattle.zarrs_grid.specs.Parts.{starts_in_chunk}
use Rattle.zarrs_grid.proofs.chunk_part.chunk_starts.Given as goal

abbrev pub invariant-loop-axis : goal.invariant-loop-axis
invariant-loop-axis l = l.found.items ++ starts_in_chunk (drop l.axis l.shape) (drop l.axis l.chunk) (drop l.axis l.starts) ≡ starts_in_chunk l.shape l.chunk l.starts
