use Rattle.zarrs_lent_handles.proofs.RoundLemmas.{a_round_is_enough}
use Rattle.zarrs_lent_handles.proofs.laws.a_round_is_enough.Goals as goal

pub returns : goal.returns
returns c = record { law = a_round_is_enough }
