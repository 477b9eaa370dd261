use Rattle.zarrs_metadata.proofs.Reshapes.{reshape_parts, reshape_from}
use Rattle.zarrs_metadata.proofs.laws.reshapes_leave_one_size.Goals as goal

pub returns : goal.returns
returns c = record { by_size = λ dims. (reshape_parts dims, reshape_from dims) }
