use Rattle.std.proofs.Common.{◌≡◌, ◌++◌, drop}
use Rattle.zarrs_grid.specs.Parts.{starts_in_region}
use Rattle.zarrs_grid.proofs.chunk_part.region_starts.Given as goal

abbrev pub invariant-loop-axis : goal.invariant-loop-axis
invariant-loop-axis l = l.found.items ++ starts_in_region (drop l.axis l.shape) (drop l.axis l.chunk) (drop l.axis l.starts) ≡ starts_in_region l.shape l.chunk l.starts
