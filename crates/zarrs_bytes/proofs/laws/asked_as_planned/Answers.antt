use Rattle.zarrs_bytes.proofs.JoinedPlaces.{asked_as_planned}
use Rattle.zarrs_bytes.proofs.laws.asked_as_planned.Goals as goal

pub returns : goal.returns
returns c = record { law = asked_as_planned }
