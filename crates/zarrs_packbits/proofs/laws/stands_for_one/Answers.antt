use Rattle.zarrs_packbits.proofs.CodecLaws.{stands_for_one}
use Rattle.zarrs_packbits.proofs.laws.stands_for_one.Goals as goal

pub returns : goal.returns
returns c = record { law = stands_for_one }
