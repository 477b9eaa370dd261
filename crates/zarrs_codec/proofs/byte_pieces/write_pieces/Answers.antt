use Rattle.std.proofs.Common.{◌≡◌, ℕ, ◌+◌, length, drop, take, get_or, sym, ap, ◌∙◌, arith}
use Rattle.std.specs.List.{range_with_len}
use Rattle.std.proofs.Math.Nat.{le-max_right}
use Rattle.zarrs_chunk.specs.Runs.{joined_runs}
use Rattle.zarrs_array_bytes.specs.Update.{update}
use Rattle.zarrs_array_bytes.proofs.WriteLemmas.{length-update}
use Rattle.zarrs_codec.specs.BytePieces.{end_of, furthest_end}
use Rattle.zarrs_codec.proofs.PieceLemmas.{length-pieces_from, furthest_end-from, update-pieces_from, piece_written}
use Rattle.zarrs_codec.proofs.byte_pieces.write_pieces.Goals as goal

pub slice_bounds-write_piece-end : goal.slice_bounds-write_piece-end
slice_bounds-write_piece-end c =
    omega (arith, length-pieces_from c.args.pieces.now c.loop-start.start-index (omega arith), c.loop-start.invariant.left)

pub loop-start-preserved : goal.loop-start-preserved
loop-start-preserved c =
    let pieces = c.args.pieces.now in
    let bytes = c.args.bytes.now in
    let i = c.loop-start.start-index in
    let done = c.loop-start.done in
    let value = c.loop-start.value in
    let piece : ℕ × ℕ = get_or pieces i (0, 0) in
    let left = length-pieces_from pieces i (omega arith) in
    let written = piece_written value bytes piece.0 piece.1 done (omega (arith, left, c.loop-start.invariant.left)) c.write_piece.ensures.written in
    let same : length c.write_piece.new.value ≡ length value = ap length written ∙ length-update value (range_with_len piece.0 piece.1) (take piece.1 (drop done bytes)) in
    record {
      left = omega (arith, left, c.loop-start.invariant.left);
      inside = omega (arith, same, furthest_end-from pieces i (omega arith), le-max_right (end_of piece.0 piece.1) (furthest_end (drop (i + 1) pieces)), c.loop-start.invariant.inside);
      told = ap (λ xs. update xs (joined_runs (drop (i + 1) pieces)) (drop (done + piece.1) bytes)) written
          ∙ sym (update-pieces_from value bytes pieces i done (omega arith) (omega (arith, left, c.loop-start.invariant.left)))
          ∙ c.loop-start.invariant.told;
    }
