use Rattle.zarrs_array_plan.proofs.RegionContainers.{part_cuts}
use Rattle.zarrs_array_plan.proofs.region_elements.part_of.Goals as goal

pub returns-clause-part_cut : goal.returns-clause-part_cut
returns-clause-part_cut c = part_cuts c.args.data_type.now c.args.region.now c.args.part.now c.args.elements.now c.take_part.result c.take_part.ensures.exact
