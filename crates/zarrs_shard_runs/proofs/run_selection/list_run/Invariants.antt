use Rattle.std.proofs.Common.{◌-◌, ◌++◌, ℕ, List}
use Rattle.std.specs.List.{range_with_len}
use Rattle.zarrs_shard_runs.specs.RunSelection.{HavePlaces}
use Rattle.zarrs_shard_runs.proofs.run_selection.list_run.Given as goal

abbrev pub invariant-loop-place : goal.invariant-loop-place
invariant-loop-place l = (places : List ℕ) → HavePlaces l.shape l.initial.tuples.items places → HavePlaces l.shape l.tuples.items (places ++ range_with_len l.start (l.place - l.start))
