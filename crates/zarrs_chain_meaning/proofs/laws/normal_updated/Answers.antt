use Rattle.zarrs_chain_meaning.proofs.CodecLaws.{normal_updated}
use Rattle.zarrs_chain_meaning.proofs.laws.normal_updated.Goals as goal

pub returns : goal.returns
returns g c = record { law = λ codec type chunk places new. normal_updated codec type chunk places new }
