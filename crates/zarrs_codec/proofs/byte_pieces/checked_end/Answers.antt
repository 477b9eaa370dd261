use Rattle.std.proofs.Common.{sym, ◌∙◌, arith}
use Rattle.zarrs_codec.proofs.PieceLemmas.{ends-from, furthest_end-from, length-pieces_from, too_many}
use Rattle.zarrs_codec.proofs.byte_pieces.checked_end.Goals as goal

pub returns-in-None-clause-fit : goal.returns-in-None-clause-fit
returns-in-None-clause-fit c =
    let pieces = c.args.pieces.now in
    let i = c.loop-start.start-index in
    sym (too_many pieces c.args.len (omega (arith, length-pieces_from pieces i (omega arith), c.loop-start.invariant.sums)))

pub loop-start-preserved : goal.loop-start-preserved
loop-start-preserved c =
    let pieces = c.args.pieces.now in
    let i = c.loop-start.start-index in
    let ends = c.loop-start.invariant.ends ∙ ends-from pieces i (omega arith) (omega arith) in
    let sums = length-pieces_from pieces i (omega arith) in
    let from = furthest_end-from pieces i (omega arith) in
    record {
      ends = ends;
      fits = omega arith;
      sums = omega (arith, sums, c.loop-start.invariant.sums);
      furthest = grind (arith, from, c.loop-start.invariant.furthest, c.further-end.ensures.value);
    }
