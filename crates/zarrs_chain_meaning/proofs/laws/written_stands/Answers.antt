use Rattle.zarrs_chain_meaning.proofs.CodecLaws.{chain_stands}
use Rattle.zarrs_chain_meaning.proofs.laws.written_stands.Goals as goal

pub returns : goal.returns
returns g c = record { law = λ f chain sizes type fill value chunk lawful is each positive w. chain_stands f chain lawful is sizes type fill value chunk positive each w }
