use Rattle.zarrs_chain_meaning.proofs.CodecLaws.{chains_made_again}
use Rattle.zarrs_chain_meaning.proofs.laws.chains_are_made_again.Goals as goal

pub returns : goal.returns
returns g c = record { law = λ described makes chain h. chains_made_again described makes chain h }
