use Rattle.std.proofs.Common.{◌≡◌, ◌∷◌, ◌+◌, List, get_or, drop, arith, sym, ap, ◌∙◌}
use Rattle.std.proofs.lemmas.List.{drop_more}
use Rattle.zarrs_array_to_array.specs.declared.transpose.axis.Axis.{Axis}
use Rattle.zarrs_array_to_array.specs.Strides.{next_rows}
use Rattle.zarrs_array_to_array.specs.Axes.{behind, reach}
use Rattle.zarrs_array_to_array.proofs.Steps.{IsRoomy-rows}
use Rattle.zarrs_array_to_array.proofs.transpose.axis.places_over.Goals as goal

pub loop-axis-preserved : goal.loop-axis-preserved
loop-axis-preserved c =
    let axes : List Axis = c.args.axes.now in
    let k = c.loop-axis.axis-index in
    let none : Axis = record { size = 0; step = 0 } in
    let axis : Axis = get_or axes k none in
    let places = c.loop-axis.places.items in
    let split : drop k axes ≡ axis ∷ drop (k + 1) axes = drop_more axes k none c.loop-axis-test.true in
    let next : c.swap.new.x.items ≡ next_rows axis.step axis.size places = ap (λ v. v.items) c.swap.ensures.x_after ∙ c.in_ok-write_rows.ensures.places ∙ ap (next_rows axis.step axis.size) c.as_slice.ensures.value in
    record {
      level = ap (behind (drop (k + 1) axes)) next ∙ sym (ap (λ (xs : List Axis). behind xs places) split) ∙ c.loop-axis.invariant.level;
      room = rw next (IsRoomy-rows (reach axes + 1) (reach (drop (k + 1) axes)) axis.step axis.size places (λ j l. omega (arith, c.loop-axis.invariant.room j l, ap reach split)));
    }
