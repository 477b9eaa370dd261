use Rattle.zarrs_codecs.proofs.PlannedAlike.{planned_alike}
use Rattle.zarrs_codecs.proofs.laws.planned_reads_are_alike.Goals as goal

pub returns : goal.returns
returns g c = record { law = λ f. planned_alike f }
