use Rattle.zarrs_codecs.proofs.PlannedAlike.{sized_alike}
use Rattle.zarrs_codecs.proofs.laws.sized_reads_are_alike.Goals as goal

pub returns : goal.returns
returns g c = record { law = λ f. sized_alike f }
