use Rattle.zarrs_array_bytes.proofs.CountLaw.{containers_are_counted}
use Rattle.zarrs_array_bytes.proofs.laws.containers_are_counted.Goals as goal

pub returns : goal.returns
returns c = record { law = containers_are_counted }
