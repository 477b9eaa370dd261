use Rattle.zarrs_chain_meaning.proofs.CodecLaws.{chain_keeps}
use Rattle.zarrs_chain_meaning.proofs.laws.written_keeps.Goals as goal

pub returns : goal.returns
returns g c = record { law = λ f chain sizes type fill value chunk r lawful is each positive w e. chain_keeps f chain sizes type fill value chunk r lawful is each positive w e }
