use Rattle.zarrs_packbits.proofs.CodecLaws.{normal_updated}
use Rattle.zarrs_packbits.proofs.laws.normal_updated.Goals as goal

pub returns : goal.returns
returns c = record { law = normal_updated }
