use Rattle.std.proofs.Common.{sym}
use Rattle.zarrs_array_plan.proofs.PlannedRegions.{lies_in}
use Rattle.zarrs_array_plan.proofs.array_grid.ArrayGrid.plan.Goals as goal

pub returns-clause-inside : goal.returns-clause-inside
returns-clause-inside c =
    lies_in c.args.self.now c.args.region.now c.shape.ensures.value c.chunk_shape.ensures.value c.chunk_shape.ensures.form c.check_box.ensures.ends
    (sym (c.in_ok-check_box.ensures {u = tt}).answer) (sym (c.in_ok-num_elements.ensures {u = tt}).product)
