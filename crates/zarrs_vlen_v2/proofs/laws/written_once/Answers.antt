use Rattle.zarrs_vlen_v2.proofs.CodecLaws.{written_once}
use Rattle.zarrs_vlen_v2.proofs.laws.written_once.Goals as goal

pub returns : goal.returns
returns c = record { law = written_once }
