use Rattle.zarrs_array_plan.proofs.Keys.{keys_apart}
use Rattle.zarrs_array_plan.proofs.laws.keys_differ.Goals as goal

pub returns : goal.returns
returns c = record { law = keys_apart }
