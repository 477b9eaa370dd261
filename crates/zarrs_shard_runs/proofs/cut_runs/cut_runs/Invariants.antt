use Rattle.std.proofs.Common.{◌≡◌, map, take}
use Rattle.zarrs_chunk.specs.Runs.{joined_runs}
use Rattle.zarrs_shard_runs.specs.CutRuns.{AreCut, cell, cells}
use Rattle.zarrs_shard_runs.proofs.cut_runs.cut_runs.Given as goal

abbrev pub invariant-loop-start : goal.invariant-loop-start
invariant-loop-start l = record {
  cells : cells l.cuts.items ≡ map (cell l.parts l.sizes) (joined_runs (take l.start-index l.runs));
  cut : AreCut l.parts l.sizes l.cuts.items;
}
