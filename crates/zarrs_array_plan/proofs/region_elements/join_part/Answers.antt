use Rattle.zarrs_array_plan.proofs.RegionContainers.{part_joins}
use Rattle.zarrs_array_plan.proofs.region_elements.join_part.Goals as goal

pub returns-clause-chunk_joined : goal.returns-clause-chunk_joined
returns-clause-chunk_joined c =
    part_joins c.args.data_type.now c.args.region.now c.args.part.now c.args.answer c.args.elements.now c.put_part.result c.put_part.ensures.exact
