use Rattle.zarrs_chain_meaning.proofs.CodecLaws.{chain_one}
use Rattle.zarrs_chain_meaning.proofs.laws.stands_for_one.Goals as goal

pub returns : goal.returns
returns g c = record { law = λ f chain sizes type fill value chunk other is positive a b. chain_one f chain is sizes type fill value chunk other positive a b }
