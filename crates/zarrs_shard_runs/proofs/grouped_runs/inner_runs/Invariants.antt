use Rattle.std.proofs.Common.{◌≡◌, ◌+◌, ◌≤◌, ℕ, take}
use Rattle.std.specs.List.{All, flat_map}
use Rattle.zarrs_chunk.specs.Runs.{AreApart, AreFilled, EndWithin, joined_runs}
use Rattle.zarrs_shard_runs.specs.CutRuns.{places_of_cut}
use Rattle.zarrs_shard_runs.proofs.grouped_runs.inner_runs.Given as goal

abbrev pub invariant-loop-cut : goal.invariant-loop-cut
invariant-loop-cut l = record {
  places : joined_runs l.runs.items ≡ flat_map places_of_cut (take l.cut-index l.cuts);
  filled : AreFilled l.runs.items;
  inside : (limit : ℕ) → All (λ it. it.start + it.len ≤ limit) l.cuts → EndWithin limit l.runs.items;
  apart : AreApart l.runs.items;
}
