use Rattle.std.proofs.Common.{◌≡◌, max, drop}
use Rattle.zarrs_codec.specs.BytePieces.{furthest_end}
use Rattle.zarrs_codec.proofs.byte_pieces.furthest_end_of.Given as goal

abbrev pub invariant-loop-start : goal.invariant-loop-start
invariant-loop-start l = record {
  furthest : furthest_end l.pieces ≡ max l.end (furthest_end (drop l.start-index l.pieces));
}
