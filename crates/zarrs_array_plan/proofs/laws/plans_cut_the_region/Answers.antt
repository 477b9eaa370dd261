use Rattle.zarrs_array_plan.proofs.PlansCut.{plans_cut}
use Rattle.zarrs_array_plan.proofs.laws.plans_cut_the_region.Goals as goal

pub returns : goal.returns
returns c = record { law = plans_cut }
