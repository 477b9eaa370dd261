use Rattle.std.proofs.Common.{◌≡◌, ◌*◌, drop}
use Rattle.zarrs_lent_handles.specs.Pieces.{pieces_seen}
use Rattle.zarrs_c_calls.specs.Fetched.{pieces_given}
use Rattle.zarrs_c_calls.proofs.GivenPieces.{in_front}
use Rattle.zarrs_c_calls.proofs.fetched.pieces_given.Given as goal

-- the pieces so far and those of the ranges that are left are all
abbrev pub invariant-loop-at : goal.invariant-loop-at
invariant-loop-at l = in_front (pieces_seen l.pieces.items) (pieces_given (drop (2 * l.at) l.ranges) l.left) ≡ pieces_given l.ranges l.fetched
