use Rattle.std.proofs.Common.{refl, sym}
use Rattle.zarrs_array_plan.proofs.EmptyBoxes.{no_places}
use Rattle.zarrs_array_plan.proofs.region_elements.box_runs.Goals as goal

pub returns-in_ok-check_box-in-None-clause-places : goal.returns-in_ok-check_box-in-None-clause-places
returns-in_ok-check_box-in-None-clause-places c = record {
  is = no_places c.args.lengths.now c.args.part.now (c.in_ok-from_slice.ensures {u = tt}).items (sym c.in-None.ensures.answer) (sym (c.in_ok-check_box-in-None.ensures {u = tt}).answer) c.new-in-None.ensures.items;
  no_fault = refl;
}
