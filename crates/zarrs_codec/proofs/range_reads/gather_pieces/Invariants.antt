use Rattle.std.proofs.Common.{◌≡◌, ◌++◌, drop, length, nat_le}
use Rattle.std.specs.List.{list_all}
use Rattle.zarrs_codec.specs.ByteRanges.{bytes_in_ranges}
use Rattle.zarrs_codec.proofs.range_reads.gather_pieces.Given as goal

abbrev pub invariant-loop-range : goal.invariant-loop-range
invariant-loop-range l = record {
  ends : list_all (λ range. nat_le range.end (length l.value)) l.ranges ≡ list_all (λ range. nat_le range.end (length l.value)) (drop l.range-index l.ranges);
  read : bytes_in_ranges l.value l.ranges ≡ l.bytes.items ++ bytes_in_ranges l.value (drop l.range-index l.ranges);
}
