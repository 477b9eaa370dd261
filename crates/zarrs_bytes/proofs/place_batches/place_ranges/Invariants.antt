use Rattle.std.proofs.Common.{◌≡◌, ◌<◌, ◌≤◌, [], take}
use Rattle.std.specs.List.{All}
use Rattle.zarrs_bytes.specs.AskedRanges.{ranges_of_places, with_range}
use Rattle.zarrs_bytes.specs.PartialRead.{place_bytes}
use Rattle.zarrs_bytes.specs.PlannedRanges.{indices_until}
use Rattle.zarrs_bytes.proofs.place_batches.place_ranges.Given as goal

abbrev pub invariant-loop-place : goal.invariant-loop-place
invariant-loop-place l = record {
  ordered : l.start ≤ l.end;
  bytes : indices_until l.ranges.items l.start l.end ≡ place_bytes l.size (take l.place-index l.places);
  filled : All (λ range. range.start < range.end) l.ranges.items;
  joined : with_range l.ranges.items l.start l.end ≡ ranges_of_places l.size (take l.place-index l.places);
  empty : l.start ≡ l.end → l.ranges.items ≡ [];
}
