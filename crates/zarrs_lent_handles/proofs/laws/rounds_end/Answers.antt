use Rattle.zarrs_lent_handles.proofs.RoundLemmas.{rounds_end}
use Rattle.zarrs_lent_handles.proofs.laws.rounds_end.Goals as goal

pub returns : goal.returns
returns c = record { law = rounds_end }
