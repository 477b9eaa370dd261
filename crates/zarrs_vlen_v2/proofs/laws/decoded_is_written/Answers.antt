use Rattle.zarrs_vlen_v2.proofs.CodecLaws.{decoded_is_written}
use Rattle.zarrs_vlen_v2.proofs.laws.decoded_is_written.Goals as goal

pub returns : goal.returns
returns c = record { law = decoded_is_written }
