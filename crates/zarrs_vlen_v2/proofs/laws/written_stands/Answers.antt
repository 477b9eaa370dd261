use Rattle.zarrs_vlen_v2.proofs.CodecLaws.{written_stands}
use Rattle.zarrs_vlen_v2.proofs.laws.written_stands.Goals as goal

pub returns : goal.returns
returns c = record { law = written_stands }
