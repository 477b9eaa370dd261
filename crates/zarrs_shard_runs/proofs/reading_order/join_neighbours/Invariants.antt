use Rattle.std.proofs.Common.{◌≡◌, ℕ, take}
use Rattle.zarrs_chunk.specs.Runs.{AreApart, EndWithin, joined_runs}
use Rattle.zarrs_shard_runs.proofs.reading_order.join_neighbours.Given as goal

abbrev pub invariant-loop-start : goal.invariant-loop-start
invariant-loop-start l = record {
  places : joined_runs l.joined.items ≡ joined_runs (take l.start-index l.runs);
  below : (limit : ℕ) → EndWithin limit l.runs → EndWithin limit l.joined.items;
  apart : AreApart l.joined.items;
}
