use Rattle.std.proofs.Common.{◌∷◌, [], List, get_or, take, set, ap, sym, ◌∙◌, arith}
use Rattle.std.proofs.lemmas.List.{length-set}
use Rattle.zarrs_array_to_array.specs.declared.transpose.axis.Axis.{Axis}
use Rattle.zarrs_array_to_array.specs.Strides.{next_rows}
use Rattle.zarrs_array_to_array.specs.Axes.{behind, reach, axes_of}
use Rattle.zarrs_array_to_array.proofs.AxisRows.{behind-more, reach-more, axes_of-more, first_written}
use Rattle.zarrs_array_to_array.proofs.transpose.axis.put_axes.Goals as goal

pub loop-axis-init : goal.loop-axis-init
loop-axis-init c =
    let one : Axis = record { size = 1; step = 0 } in
    let two = first_written c.args.axes.now one (omega (arith, c.requires.room)) in
    record {
      places = ap (λ (axes : List Axis). behind axes (0 ∷ [])) two;
      reached = omega (arith, ap reach two);
      plane = omega arith;
      count = omega arith;
      room = omega (arith, c.requires.room, length-set (set c.args.axes.now 0 one) 1 one ∙ length-set c.args.axes.now 0 one);
    }

pub loop-axis-preserved : goal.loop-axis-preserved
loop-axis-preserved c =
    let sizes = c.args.sizes.now in
    let steps = c.args.steps.now in
    let order = c.args.order.now in
    let k = c.loop-axis.axis-index in
    let axis = get_or order k 0 in
    let next : Axis = record { size = get_or sizes axis 0; step = get_or steps axis 0 } in
    let done : List Axis = axes_of sizes steps (take k order) in
    let more = axes_of-more sizes steps order k c.loop-axis-test.true in
    record {
      places =
          c.put_axis-count.ensures.places
          ∙ ap (next_rows next.step next.size) c.loop-axis.invariant.places
          ∙ sym (ap (λ (axes : List Axis). behind axes (0 ∷ [])) more ∙ behind-more done next (0 ∷ []));
      reached = omega (arith, c.put_axis-count.ensures.reach, c.loop-axis.invariant.reached, ap reach more ∙ reach-more done next);
      plane = omega (arith, c.put_axis-count.ensures.count, c.loop-axis.invariant.plane);
      count = omega (arith, c.put_axis-count.ensures.within, c.loop-axis.invariant.count);
      room = omega (arith, c.put_axis-count.ensures.len, c.loop-axis.invariant.room);
    }
