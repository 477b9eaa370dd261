use Rattle.zarrs_bytes.proofs.JoinedPlaces.{run_is_one_range}
use Rattle.zarrs_bytes.proofs.laws.run_is_one_range.Goals as goal

pub returns : goal.returns
returns c = record { law = run_is_one_range }
