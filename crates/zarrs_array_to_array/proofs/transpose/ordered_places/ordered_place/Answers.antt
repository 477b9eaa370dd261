use Rattle.std.proofs.Common.{◌+◌, ◌*◌, ◌<◌, ◌≤◌, drop, get_or, length, arith, sym, ◌∙◌, subst, below_more}
use Rattle.zarrs_chunk.specs.ChunkShape.{product}
use Rattle.zarrs_chunk.proofs.Fitting.{room_below, room_next}
use Rattle.zarrs_chunk.proofs.Inside.{is_tuple_inside-all, number_behind-more, number_behind-end}
use Rattle.zarrs_chunk.proofs.Products.{product_drop, product_positive-drop}
use Rattle.zarrs_metadata.proofs.Orders.{order_parts}
use Rattle.zarrs_array_to_array.specs.Orders.{permuted, position}
use Rattle.zarrs_array_to_array.proofs.Orders.{length-permuted, permuted_at, permuted_product, position_below, order_at_position}
use Rattle.zarrs_array_to_array.proofs.Transposition.{permuted_positive}
use Rattle.zarrs_array_to_array.proofs.transpose.ordered_places.ordered_place.Goals as goal

-- the number with one axis more is below the number of elements
below : (c : goal.Else-index-size) → c.loop-axis.place * get_or c.args.sizes.now (get_or c.args.order.now c.loop-axis.axis-index 0) 0 + get_or c.args.tuple.now (get_or c.args.order.now c.loop-axis.axis-index 0) 0 + 1 ≤ product c.args.sizes.now
below c =
    let order = c.args.order.now in
    let sizes = permuted order c.args.sizes.now in
    let tuple = permuted order c.args.tuple.now in
    let k = c.loop-axis.axis-index in
    let l : k < length order = omega arith in
    let parts = order_parts order c.requires.order in
    let s = permuted_at order c.args.sizes.now k l in
    let t = permuted_at order c.args.tuple.now k l in
    let room = room_below c.loop-axis.place (get_or sizes k 0) (product (drop (k + 1) sizes)) (get_or tuple k 0) 1 (product sizes)
    (product_positive-drop sizes (k + 1) (permuted_positive order c.args.sizes.now parts c.requires.axes c.requires.positive))
    (omega (arith, s, t))
    (rw (← product_drop sizes k (omega (arith, length-permuted order c.args.sizes.now))) c.loop-axis.invariant.room) in
    rw (s, t, permuted_product order c.args.sizes.now parts c.requires.axes) at room

pub overflow_mul-place : goal.overflow_mul-place
overflow_mul-place c = omega (arith, below c, c.requires.fits)

pub overflow_add-place : goal.overflow_add-place
overflow_add-place c = omega (arith, below c, c.requires.fits)

pub loop-axis-preserved : goal.loop-axis-preserved
loop-axis-preserved c =
    let order = c.args.order.now in
    let sizes = permuted order c.args.sizes.now in
    let tuple = permuted order c.args.tuple.now in
    let k = c.loop-axis.axis-index in
    let l : k < length order = omega arith in
    let s = permuted_at order c.args.sizes.now k l in
    let t = permuted_at order c.args.tuple.now k l in
    let place = number_behind-more sizes tuple c.loop-axis.place k (omega (arith, length-permuted order c.args.sizes.now)) (omega (arith, length-permuted order c.args.tuple.now)) ∙ c.loop-axis.invariant.place in
    let room = room_next c.loop-axis.place (get_or sizes k 0) (product (drop (k + 1) sizes)) (get_or tuple k 0) (product sizes) (omega (arith, s, t)) (rw (← product_drop sizes k (omega (arith, length-permuted order c.args.sizes.now))) c.loop-axis.invariant.room) in
    record {
      place = rw (s, t) at place;
      inside = below_more _ _ c.loop-axis.invariant.inside (omega arith);
      room = rw (s, t) at room;
    }

pub returns-clause-inside : goal.returns-clause-inside
returns-clause-inside c =
    let order = c.args.order.now in
    let sizes = c.args.sizes.now in
    let tuple = c.args.tuple.now in
    let parts = order_parts order c.requires.order in
    is_tuple_inside-all sizes tuple (omega arith)
    (λ axis l.
    let named : axis < length order = omega (arith, c.requires.axes) in
    let there = position_below order axis parts named in
    let found : get_or tuple (get_or order (position order axis) 0) 0 < get_or sizes (get_or order (position order axis) 0) 0 = c.loop-axis.invariant.inside (position order axis) (omega (arith, there)) in
    subst (λ n. get_or tuple n 0 < get_or sizes n 0) (order_at_position order axis parts named) found)

pub returns-clause-value : goal.returns-clause-value
returns-clause-value c =
    let order = c.args.order.now in
    sym (number_behind-end (permuted order c.args.sizes.now) (permuted order c.args.tuple.now) c.loop-axis.place c.loop-axis.axis-index (omega (arith, length-permuted order c.args.sizes.now))) ∙ c.loop-axis.invariant.place
