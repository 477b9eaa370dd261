use Rattle.zarrs_bytes.proofs.PartWrites.{write_updates}
use Rattle.zarrs_bytes.proofs.laws.write_updates.Goals as goal

pub returns : goal.returns
returns c = record { law = write_updates }
