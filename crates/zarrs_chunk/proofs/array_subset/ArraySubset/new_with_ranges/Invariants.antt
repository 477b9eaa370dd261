use Rattle.std.proofs.Common.{◌≡◌, ◌++◌, ◌-◌, map, drop, nat_le}
use Rattle.std.specs.List.{list_all}
use Rattle.zarrs_chunk.specs.Region.{IsRegion}
use Rattle.zarrs_chunk.proofs.array_subset.ArraySubset.new_with_ranges.Given as goal

abbrev pub invariant-loop-range : goal.invariant-loop-range
invariant-loop-range l = record {
  ordered : list_all (λ r. nat_le r.start r.end) l.ranges ≡ list_all (λ r. nat_le r.start r.end) (drop l.range-index l.ranges);
  starts : map (λ r. r.start) l.ranges ≡ l.starts.items ++ map (λ r. r.start) (drop l.range-index l.ranges);
  lengths : map (λ r. r.end - r.start) l.ranges ≡ l.lengths.items ++ map (λ r. r.end - r.start) (drop l.range-index l.ranges);
  region : IsRegion l.starts.items l.lengths.items;
}
