use Rattle.zarrs_packbits.proofs.CodecLaws.{normal_written}
use Rattle.zarrs_packbits.proofs.laws.normal_written.Goals as goal

pub returns : goal.returns
returns c = record { law = normal_written }
