use Rattle.zarrs_chain_meaning.proofs.CodecLaws.{normal_moved}
use Rattle.zarrs_chain_meaning.proofs.laws.normal_moved.Goals as goal

pub returns : goal.returns
returns g c = record { law = λ codec type m chunk. normal_moved codec type m chunk }
