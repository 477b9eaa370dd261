use Rattle.zarrs_codecs.proofs.ReadLaws.{asked_alike, chunks_alike}
use Rattle.zarrs_codecs.proofs.laws.reads_are_alike.Goals as goal

pub returns : goal.returns
returns g c = record { law = λ f. chunks_alike f; locality = λ f. asked_alike f }
