use Rattle.std.proofs.Common.{◌≡◌, drop}
use Rattle.zarrs_lent_handles.specs.Pieces as pieces
use Rattle.zarrs_lent_handles.proofs.piece.are_apart.Given as goal

abbrev pub invariant-loop-piece : goal.invariant-loop-piece
invariant-loop-piece l = pieces.are_apart l.len 0 (pieces.pieces_seen l.pieces) ≡ pieces.are_apart l.len l.free (pieces.pieces_seen (drop l.piece-index l.pieces))
