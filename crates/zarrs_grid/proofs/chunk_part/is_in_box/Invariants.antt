use Rattle.std.proofs.Common.{ℕ, ◌+◌, ◌<◌, ◌≤◌, get_or}
use Rattle.zarrs_grid.proofs.chunk_part.is_in_box.Given as goal

abbrev pub invariant-loop-axis : goal.invariant-loop-axis
invariant-loop-axis l = record {
  from_start : (k : ℕ) → k < l.axis → get_or l.starts k 0 ≤ get_or l.tuple k 0;
  before_end : (k : ℕ) → k < l.axis → get_or l.tuple k 0 < get_or l.starts k 0 + get_or l.lengths k 0;
}
