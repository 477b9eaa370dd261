use Rattle.zarrs_c_calls.proofs.EnoughLemmas.{plan_is_enough}
use Rattle.zarrs_c_calls.proofs.laws.plan_is_enough.Goals as goal

pub returns : goal.returns
returns c = record { law = plan_is_enough }
