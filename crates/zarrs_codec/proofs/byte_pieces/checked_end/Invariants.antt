use Rattle.std.proofs.Common.{◌≡◌, ◌+◌, ◌<◌, ◌^◌, drop, length, max, nat_lt}
use Rattle.std.specs.List.{list_all}
use Rattle.zarrs_chunk.specs.Runs.{joined_runs}
use Rattle.zarrs_codec.specs.BytePieces.{furthest_end}
use Rattle.zarrs_codec.proofs.byte_pieces.checked_end.Given as goal

abbrev pub invariant-loop-start : goal.invariant-loop-start
invariant-loop-start l = record {
  ends : list_all (λ piece. nat_lt (piece.0 + piece.1) (2 ^ 64)) l.pieces ≡ list_all (λ piece. nat_lt (piece.0 + piece.1) (2 ^ 64)) (drop l.start-index l.pieces);
  fits : l.sum < 2 ^ 64;
  sums : length (joined_runs l.pieces) ≡ l.sum + length (joined_runs (drop l.start-index l.pieces));
  furthest : furthest_end l.pieces ≡ max l.end (furthest_end (drop l.start-index l.pieces));
}
