use Rattle.zarrs_grid.proofs.Cut.{touched_have}
use Rattle.zarrs_grid.proofs.laws.touched_have_elements.Goals as goal

pub returns : goal.returns
returns c = record { law = touched_have }
