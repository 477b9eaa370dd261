use Rattle.zarrs_packbits.proofs.CodecLaws.{normal_once}
use Rattle.zarrs_packbits.proofs.laws.normal_once.Goals as goal

pub returns : goal.returns
returns c = record { law = normal_once }
