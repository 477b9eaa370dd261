use Rattle.zarrs_bytes.proofs.Taken.{length_grows}
use Rattle.zarrs_bytes.proofs.laws.length_grows.Goals as goal

pub returns : goal.returns
returns c = record { law = length_grows }
