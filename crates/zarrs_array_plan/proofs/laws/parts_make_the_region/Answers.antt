use Rattle.zarrs_array_plan.proofs.RegionContainers.{all_make}
use Rattle.zarrs_array_plan.proofs.laws.parts_make_the_region.Goals as goal

pub returns : goal.returns
returns c = record { law = all_make }
