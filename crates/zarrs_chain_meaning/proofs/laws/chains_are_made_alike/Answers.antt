use Rattle.zarrs_chain_meaning.proofs.MadeAlike.{chain_made_at}
use Rattle.zarrs_chain_meaning.proofs.laws.chains_are_made_alike.Goals as goal

pub returns : goal.returns
returns g c = record { law = λ makes metadatas. chain_made_at makes metadatas }
