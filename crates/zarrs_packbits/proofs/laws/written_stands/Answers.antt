use Rattle.zarrs_packbits.proofs.CodecLaws.{written_stands}
use Rattle.zarrs_packbits.proofs.laws.written_stands.Goals as goal

pub returns : goal.returns
returns c = record { law = written_stands }
