use Rattle.std.proofs.Common.{◌≡◌, ◌+◌, ◌≤◌, drop, length}
use Rattle.zarrs_chunk.specs.Runs.{joined_runs}
use Rattle.zarrs_array_bytes.specs.Update.{update}
use Rattle.zarrs_codec.specs.BytePieces.{furthest_end}
use Rattle.zarrs_codec.proofs.byte_pieces.write_pieces.Given as goal

abbrev pub invariant-loop-start : goal.invariant-loop-start
invariant-loop-start l = record {
  left : length l.bytes ≡ l.done + length (joined_runs (drop l.start-index l.pieces));
  inside : furthest_end (drop l.start-index l.pieces) ≤ length l.value;
  told : update l.value (joined_runs (drop l.start-index l.pieces)) (drop l.done l.bytes) ≡ update l.fn.value (joined_runs l.pieces) l.bytes;
}
