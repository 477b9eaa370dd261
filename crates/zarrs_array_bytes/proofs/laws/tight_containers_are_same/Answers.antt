use Rattle.zarrs_array_bytes.proofs.TightLaw.{tight_are_same}
use Rattle.zarrs_array_bytes.proofs.laws.tight_containers_are_same.Goals as goal

pub returns : goal.returns
returns c = record { law = tight_are_same }
