use Rattle.std.proofs.Common.{◌≡◌, drop}
use Rattle.zarrs_lent_handles.specs.Pieces as pieces
use Rattle.zarrs_lent_handles.proofs.piece.piece_with.Given as goal

abbrev pub invariant-loop-piece : goal.invariant-loop-piece
invariant-loop-piece l = pieces.piece_with (pieces.pieces_seen l.pieces) l.number ≡ pieces.piece_with (pieces.pieces_seen (drop l.piece-index l.pieces)) l.number
