use Rattle.zarrs_bytes.proofs.Taken.{length_by_count}
use Rattle.zarrs_bytes.proofs.laws.length_by_count.Goals as goal

pub returns : goal.returns
returns c = record { law = length_by_count }
