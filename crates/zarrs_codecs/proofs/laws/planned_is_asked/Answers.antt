use Rattle.zarrs_codecs.proofs.PlannedAlike.{planned_is_asked}
use Rattle.zarrs_codecs.proofs.laws.planned_is_asked.Goals as goal

pub returns : goal.returns
returns g c = record { law = λ f. planned_is_asked f }
