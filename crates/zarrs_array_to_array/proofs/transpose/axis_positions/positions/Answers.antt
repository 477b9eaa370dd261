use Rattle.std.proofs.Common.{arith, get_or, ◌∙◌}
use Rattle.std.proofs.lemmas.List.{length-set}
use Rattle.zarrs_metadata.proofs.Orders.{order_parts}
use Rattle.zarrs_array_to_array.proofs.Orders.{is_inverse, positions_more}
use Rattle.zarrs_array_to_array.proofs.transpose.axis_positions.positions.Goals as goal

pub loop-place-preserved : goal.loop-place-preserved
loop-place-preserved c =
    let o = order_parts c.args.axes.now c.requires.order in
    record {
      len = length-set c.loop-place.positions.items (get_or c.args.axes.now c.loop-place.place 0) c.loop-place.place ∙ c.loop-place.invariant.len;
      at = λ k l. positions_more c.args.axes.now c.loop-place.positions.items c.loop-place.place o c.loop-place.invariant.len c.loop-place-test.true c.loop-place.invariant.at k l;
    }

pub returns : goal.returns
returns c =
    record { value = is_inverse c.args.axes.now c.loop-place.positions.items (order_parts c.args.axes.now c.requires.order) c.loop-place.invariant.len (λ k l. c.loop-place.invariant.at k (omega arith)) }
