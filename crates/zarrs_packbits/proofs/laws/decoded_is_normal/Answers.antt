use Rattle.zarrs_packbits.proofs.CodecLaws.{decoded_is_normal}
use Rattle.zarrs_packbits.proofs.laws.decoded_is_normal.Goals as goal

pub returns : goal.returns
returns c = record { law = decoded_is_normal }
