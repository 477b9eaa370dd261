use Rattle.zarrs_packbits.proofs.CodecLaws.{reads_alike}
use Rattle.zarrs_packbits.proofs.laws.reads_alike.Goals as goal

pub returns : goal.returns
returns c = record { law = reads_alike }
