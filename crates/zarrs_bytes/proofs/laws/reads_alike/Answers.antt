use Rattle.zarrs_bytes.proofs.Alike.{reads_alike}
use Rattle.zarrs_bytes.proofs.laws.reads_alike.Goals as goal

pub returns : goal.returns
returns c = record { law = reads_alike }
