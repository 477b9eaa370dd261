use Rattle.std.proofs.Common.{◌≤◌}
use Rattle.zarrs_chunk.proofs.runs.count_runs.Given as goal

abbrev pub invariant-loop-index : goal.invariant-loop-index
invariant-loop-index l = l.count ≤ l.index
