use Rattle.std.proofs.Common.{◌≡◌, take}
use Rattle.zarrs_chunk.specs.Runs.{joined_runs}
use Rattle.zarrs_grid.specs.Gathered.{items_at}
use Rattle.zarrs_grid.proofs.gather.gather_runs.Given as goal

abbrev pub invariant-loop-run : goal.invariant-loop-run
invariant-loop-run g l = (default : g.row.T.Denot) → l.found.items ≡ items_at l.whole (joined_runs (take l.run-index l.runs)) default
