use Rattle.zarrs_chain_meaning.proofs.CodecLaws.{chain_once}
use Rattle.zarrs_chain_meaning.proofs.laws.written_once.Goals as goal

pub returns : goal.returns
returns g c = record { law = λ f chain sizes type fill value other chunk a b. chain_once f chain sizes type fill value other chunk a b }
