use Rattle.zarrs_vlen_v2.proofs.CodecLaws.{stands_for_one}
use Rattle.zarrs_vlen_v2.proofs.laws.stands_for_one.Goals as goal

pub returns : goal.returns
returns c = record { law = stands_for_one }
