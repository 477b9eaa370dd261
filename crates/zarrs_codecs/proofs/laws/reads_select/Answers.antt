use Rattle.zarrs_codecs.proofs.ReadLaws.{chunks_select}
use Rattle.zarrs_codecs.proofs.laws.reads_select.Goals as goal

pub returns : goal.returns
returns g c = record { law = λ f. chunks_select f }
