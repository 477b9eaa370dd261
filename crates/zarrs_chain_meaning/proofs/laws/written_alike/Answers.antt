use Rattle.zarrs_chain_meaning.proofs.CodecLaws.{chain_alike}
use Rattle.zarrs_chain_meaning.proofs.laws.written_alike.Goals as goal

pub returns : goal.returns
returns g c = record { law = λ f chain sizes type fill value other_value chunk other lawful is each also positive a b. chain_alike f chain sizes type fill value other_value chunk other lawful is each also positive a b }
