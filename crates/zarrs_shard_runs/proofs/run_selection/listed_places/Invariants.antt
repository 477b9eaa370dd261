use Rattle.std.proofs.Common.{take}
use Rattle.zarrs_chunk.specs.Runs.{joined_runs}
use Rattle.zarrs_shard_runs.specs.RunSelection.{HavePlaces}
use Rattle.zarrs_shard_runs.proofs.run_selection.listed_places.Given as goal

abbrev pub invariant-loop-start : goal.invariant-loop-start
invariant-loop-start l = HavePlaces l.shape l.tuples.items (joined_runs (take l.start-index l.runs))
