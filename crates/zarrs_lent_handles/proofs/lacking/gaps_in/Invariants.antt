use Rattle.std.proofs.Common.{[], take}
use Rattle.zarrs_lent_handles.specs.Lacking.{AddsLacking}
use Rattle.zarrs_lent_handles.specs.Pieces.{pieces_seen}
use Rattle.zarrs_lent_handles.proofs.lacking.gaps_in.Given as goal

-- the ranges so far
abbrev pub invariant-loop-range : goal.invariant-loop-range
invariant-loop-range l = AddsLacking l.len (pieces_seen l.pieces) (take l.range-index l.ranges) [] l.gaps.items
