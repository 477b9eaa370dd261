use Rattle.std.proofs.Common.{◌≤◌}
use Rattle.std.specs.List.{AllAdjacentBelow}
use Rattle.zarrs_shard_runs.specs.declared.cut_runs.CutRun.{CutRun}
use Rattle.zarrs_shard_runs.proofs.grouped_runs.are_in_order.Given as goal

abbrev pub invariant-loop-index : goal.invariant-loop-index
invariant-loop-index l = AllAdjacentBelow (λ (x : CutRun) (y : CutRun). x.number ≤ y.number) l.cuts l.index
