use Rattle.std.proofs.Common.{◌≡◌, ◌≤◌, ◌-◌, ◌++◌, map}
use Rattle.std.specs.List.{range_with_len}
use Rattle.zarrs_shard_runs.specs.CutRuns.{AreCut, cell, cells}
use Rattle.zarrs_shard_runs.proofs.cut_runs.cut_run.Given as goal

abbrev pub invariant-loop-done : goal.invariant-loop-done
invariant-loop-done l = record {
  within : l.done ≤ l.len;
  cells : cells l.cuts.items ≡ cells l.initial.cuts.items ++ map (cell l.parts l.sizes) (range_with_len l.start l.done);
  cut : AreCut l.parts l.sizes l.initial.cuts.items → AreCut l.parts l.sizes l.cuts.items;
}

abbrev pub decreases-loop-done : goal.decreases-loop-done
decreases-loop-done l = l.len - l.done
