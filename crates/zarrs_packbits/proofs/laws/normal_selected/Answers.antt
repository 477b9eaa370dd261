use Rattle.zarrs_packbits.proofs.CodecLaws.{normal_selected}
use Rattle.zarrs_packbits.proofs.laws.normal_selected.Goals as goal

pub returns : goal.returns
returns c = record { law = normal_selected }
