use Rattle.zarrs_grid.specs.RegionParts.{AreRegionParts}
use Rattle.zarrs_array_plan.proofs.PlannedRegions.{parts_given}
use Rattle.zarrs_array_plan.proofs.plan.parts_in.Goals as goal

pub returns : goal.returns
returns c =
    let shape = c.args.chunk_shape.now in
    let region = c.args.region.now in
    record {
      answer = record {
        is = parts_given (λ parts. AreRegionParts shape region parts.items) c.plan_region.result shape region c.requires.grid c.requires.counted c.plan_region.ensures.answer.is;
        no_fault = c.plan_region.ensures.answer.no_fault;
      };
    }
