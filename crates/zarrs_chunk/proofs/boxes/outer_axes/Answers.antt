use Rattle.std.proofs.Common.{rules, ◌+◌, ◌≤◌, get_or, arith}
use Rattle.zarrs_chunk.proofs.Inside.{is_box_inside-at}
use Rattle.zarrs_chunk.proofs.boxes.outer_axes.Goals as goal

pub loop-index-preserved : goal.loop-index-preserved
loop-index-preserved c =
    let within : get_or c.args.starts.now c.loop-index.index 0 + get_or c.args.lengths.now c.loop-index.index 0 ≤ get_or c.args.sizes.now c.loop-index.index 0 = is_box_inside-at c.args.sizes.now c.args.starts.now c.args.lengths.now c.loop-index.index c.requires.inside (omega arith) in
    search rules
