use Rattle.std.proofs.Common.{rules, ◌+◌, ◌≤◌, get_or, arith}
use Rattle.zarrs_chunk.proofs.Inside.{is_box_inside-at}
use Rattle.zarrs_array_to_array.specs.Orders.{permuted}
use Rattle.zarrs_array_to_array.proofs.Orders.{length-permuted, permuted_at}
use Rattle.zarrs_array_regions.proofs.ordered_runs.outer_axes.Goals as goal

pub loop-index-preserved : goal.loop-index-preserved
loop-index-preserved c =
    let order = c.args.order.now in
    let index = c.loop-index.index in
    let sizes = permuted_at order c.args.sizes.now index (omega arith) in
    let starts = permuted_at order c.args.starts.now index (omega arith) in
    let lengths = permuted_at order c.args.lengths.now index (omega arith) in
    let within : get_or (permuted order c.args.starts.now) index 0 + get_or (permuted order c.args.lengths.now) index 0 ≤ get_or (permuted order c.args.sizes.now) index 0
    = is_box_inside-at (permuted order c.args.sizes.now) (permuted order c.args.starts.now) (permuted order c.args.lengths.now) index c.requires.axes.inside (omega (arith, length-permuted order c.args.sizes.now)) in
    search rules
