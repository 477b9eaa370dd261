use Rattle.zarrs_plain_vlen.proofs.Alike.{reads_alike}
use Rattle.zarrs_plain_vlen.proofs.laws.reads_alike.Goals as goal

pub returns : goal.returns
returns c = record { law = reads_alike }
