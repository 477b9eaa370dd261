use Rattle.zarrs_vlen_v2.proofs.CodecLaws.{written_alike}
use Rattle.zarrs_vlen_v2.proofs.laws.written_alike.Goals as goal

pub returns : goal.returns
returns c = record { law = written_alike }
