use Rattle.zarrs_array_bytes.proofs.ElementLaw.{AreElements-held}
use Rattle.zarrs_array_bytes.proofs.laws.held_are_elements.Goals as goal

pub returns : goal.returns
returns c = record { elements = AreElements-held }
