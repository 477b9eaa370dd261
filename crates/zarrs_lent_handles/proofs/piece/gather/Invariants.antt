use Rattle.std.proofs.Common.{◌≡◌, ◌++◌, drop, length, nat_le}
use Rattle.std.specs.List.{list_all}
use Rattle.zarrs_codec.specs.ByteRanges.{bytes_in_ranges, range_indices}
use Rattle.zarrs_lent_handles.specs.Pieces.{value_around, is_at_hand, pieces_seen}
use Rattle.zarrs_lent_handles.proofs.piece.gather.Given as goal

abbrev pub invariant-loop-range : goal.invariant-loop-range
invariant-loop-range g l = record {
  ends : list_all (λ range. nat_le range.end (length (value_around g.E.Elsewhere.elsewhere l.len (pieces_seen l.pieces)))) l.ranges ≡ list_all (λ range. nat_le range.end (length (value_around g.E.Elsewhere.elsewhere l.len (pieces_seen l.pieces)))) (drop l.range-index l.ranges);
  read : bytes_in_ranges (value_around g.E.Elsewhere.elsewhere l.len (pieces_seen l.pieces)) l.ranges ≡ l.bytes.items ++ bytes_in_ranges (value_around g.E.Elsewhere.elsewhere l.len (pieces_seen l.pieces)) (drop l.range-index l.ranges);
  hand : list_all (is_at_hand (pieces_seen l.pieces)) (range_indices l.ranges) ≡ list_all (is_at_hand (pieces_seen l.pieces)) (range_indices (drop l.range-index l.ranges));
}
