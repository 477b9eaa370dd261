use Rattle.std.proofs.Common.{◌+◌, ◌*◌, ◌≤◌, drop, get_or, arith, sym, ◌∙◌, below_more}
use Rattle.zarrs_chunk.specs.ChunkShape.{product}
use Rattle.zarrs_chunk.proofs.Fitting.{room_below, room_next}
use Rattle.zarrs_chunk.proofs.Inside.{is_tuple_inside-all, is_tuple_inside-at, number_behind-more, number_behind-end}
use Rattle.zarrs_chunk.proofs.Products.{product_drop, product_positive-drop}
use Rattle.zarrs_chunk.proofs.indices.place_inside.Goals as goal

-- the place with one axis more is below the number of elements
below : (c : goal.Else-index-size) → c.loop-axis.place * get_or c.args.sizes.now c.loop-axis.axis 0 + get_or c.args.tuple.now c.loop-axis.axis 0 + 1 ≤ product c.args.sizes.now
below c =
    let sizes = c.args.sizes.now in
    let axis = c.loop-axis.axis in
    room_below c.loop-axis.place (get_or sizes axis 0) (product (drop (axis + 1) sizes)) (get_or c.args.tuple.now axis 0) 1 (product sizes)
    (product_positive-drop sizes (axis + 1) c.requires.positive)
    (omega arith)
    (rw (← product_drop sizes axis (omega arith)) c.loop-axis.invariant.room)

pub returns-then-index-size : goal.returns-then-index-size
returns-then-index-size c = record { value = λ inside. let at = is_tuple_inside-at c.args.sizes.now c.args.tuple.now c.loop-axis.axis inside (omega arith) in absurd (omega arith) }

pub overflow_mul-place : goal.overflow_mul-place
overflow_mul-place c = omega (arith, below c, c.requires.fits)

pub overflow_add-place : goal.overflow_add-place
overflow_add-place c = omega (arith, below c, c.requires.fits)

pub loop-axis-preserved : goal.loop-axis-preserved
loop-axis-preserved c =
    let sizes = c.args.sizes.now in
    let axis = c.loop-axis.axis in
    record {
      place = number_behind-more sizes c.args.tuple.now c.loop-axis.place axis (omega arith) (omega (arith, c.requires.axes)) ∙ c.loop-axis.invariant.place;
      inside = below_more _ _ c.loop-axis.invariant.inside (omega arith);
      room = room_next c.loop-axis.place (get_or sizes axis 0) (product (drop (axis + 1) sizes)) (get_or c.args.tuple.now axis 0) (product sizes) (omega arith) (rw (← product_drop sizes axis (omega arith)) c.loop-axis.invariant.room);
    }

pub returns : goal.returns
returns c =
    let place = sym (number_behind-end c.args.sizes.now c.args.tuple.now c.loop-axis.place c.loop-axis.axis (omega arith)) ∙ c.loop-axis.invariant.place in
    record { value = (is_tuple_inside-all c.args.sizes.now c.args.tuple.now c.requires.axes (λ k l. c.loop-axis.invariant.inside k (omega arith)), place) }
