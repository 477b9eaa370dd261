use Rattle.std.proofs.Common.{◌∙◌, get_or, arith, sym}
use Rattle.zarrs_chunk.proofs.Products.{product_more, product_more-le}
use Rattle.zarrs_array_to_array.specs.Orders.{permuted}
use Rattle.zarrs_array_regions.proofs.OrderedRows.{permuted_positive}
use Rattle.zarrs_array_to_array.proofs.Orders.{length-permuted, permuted_at}
use Rattle.zarrs_array_regions.proofs.ordered_runs.count_elements.Goals as goal

pub overflow_mul-count : goal.overflow_mul-count
overflow_mul-count c =
    let order = c.args.order.now in
    let sizes = c.args.sizes.now in
    let xs = permuted order sizes in
    let at = permuted_at order sizes c.loop-axis.axis-index (omega arith) in
    let e = product_more-le xs c.loop-axis.axis-index c.loop-axis.count (get_or sizes (get_or order c.loop-axis.axis-index 0) 0) (omega (arith, length-permuted order sizes)) (sym at) (permuted_positive order sizes c.requires.below c.requires.positive) c.loop-axis.invariant in
    omega (arith, e, c.requires.fits)

pub loop-axis-preserved : goal.loop-axis-preserved
loop-axis-preserved c =
    let order = c.args.order.now in
    let sizes = c.args.sizes.now in
    let at = permuted_at order sizes c.loop-axis.axis-index (omega arith) in
    product_more (permuted order sizes) c.loop-axis.axis-index c.loop-axis.count (get_or sizes (get_or order c.loop-axis.axis-index 0) 0) (omega (arith, length-permuted order sizes)) (sym at) ∙ c.loop-axis.invariant
