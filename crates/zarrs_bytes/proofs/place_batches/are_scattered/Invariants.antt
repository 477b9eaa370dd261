use Rattle.std.proofs.Common.{◌≡◌, ◌≤◌, take}
use Rattle.zarrs_bytes.specs.ReadingCalls.{following_count}
use Rattle.zarrs_bytes.proofs.place_batches.are_scattered.Given as goal

abbrev pub invariant-loop-index : goal.invariant-loop-index
invariant-loop-index l = record {
  count : l.joined ≡ following_count (take l.index l.places);
  few : l.joined ≤ l.index;
}
