use Rattle.std.proofs.Common.{◌≡◌, ◌-◌, ◌^◌, min, drop, take, length, nat_le}
use Rattle.std.specs.List.{list_all}
use Rattle.zarrs_codec.specs.ByteRanges.{range_indices}
use Rattle.zarrs_codec.proofs.range_reads.room_for.Given as goal

abbrev pub invariant-loop-range : goal.invariant-loop-range
invariant-loop-range l = record {
  ends : list_all (λ range. nat_le range.end l.len) l.ranges ≡ list_all (λ range. nat_le range.end l.len) (drop l.range-index l.ranges);
  room : l.room ≡ min (length (range_indices (take l.range-index l.ranges))) (2 ^ 64 - 1);
}
