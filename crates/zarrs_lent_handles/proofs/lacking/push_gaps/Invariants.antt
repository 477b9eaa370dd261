use Rattle.std.proofs.Common.{◌≡◌, ◌++◌, drop}
use Rattle.zarrs_lent_handles.specs.Lacking.{gaps_from}
use Rattle.zarrs_lent_handles.specs.Pieces.{pieces_seen}
use Rattle.zarrs_lent_handles.proofs.lacking.push_gaps.Given as goal

abbrev pub invariant-loop-piece : goal.invariant-loop-piece
invariant-loop-piece l = l.gaps.items ++ gaps_from l.at l.end (pieces_seen (drop l.piece-index l.pieces)) ≡ l.fn.gaps.items ++ gaps_from l.start l.end (pieces_seen l.pieces)
