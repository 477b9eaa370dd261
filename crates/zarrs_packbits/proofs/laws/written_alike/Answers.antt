use Rattle.zarrs_packbits.proofs.CodecLaws.{written_alike}
use Rattle.zarrs_packbits.proofs.laws.written_alike.Goals as goal

pub returns : goal.returns
returns c = record { law = written_alike }
