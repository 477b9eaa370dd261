use Rattle.zarrs_grid.proofs.Cut.{parts_placed}
use Rattle.zarrs_grid.proofs.laws.parts_have_places.Goals as goal

pub returns : goal.returns
returns c = record { law = parts_placed }
