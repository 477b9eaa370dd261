use Rattle.std.proofs.Common.{◌+◌, ◌-◌, ◌≤◌, ℕ, length, map}
use Rattle.std.specs.List.{All}
use Rattle.zarrs_chunk.specs.Runs.{AreApart, AreFilled, EndWithin}
use Rattle.zarrs_shard_runs.specs.GroupedRuns.{group}
use Rattle.zarrs_shard_runs.proofs.GroupSteps.{AreGroupedTo}
use Rattle.zarrs_shard_runs.proofs.grouped_runs.groups.Given as goal

abbrev pub invariant-loop-at : goal.invariant-loop-at
invariant-loop-at l = record {
  grouped : AreGroupedTo l.cuts l.at (map group l.groups.items);
  filled : All (λ it. AreFilled it.runs.items) l.groups.items;
  apart : All (λ it. AreApart it.runs.items) l.groups.items;
  inside : (limit : ℕ) → All (λ it. it.start + it.len ≤ limit) l.cuts → All (λ it. EndWithin limit it.runs.items) l.groups.items;
}

abbrev pub decreases-loop-at : goal.decreases-loop-at
decreases-loop-at l = length l.cuts - l.at
