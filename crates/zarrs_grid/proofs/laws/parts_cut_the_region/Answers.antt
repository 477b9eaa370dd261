use Rattle.zarrs_grid.proofs.Cut.{parts_cut}
use Rattle.zarrs_grid.proofs.laws.parts_cut_the_region.Goals as goal

pub returns : goal.returns
returns c = record { law = parts_cut }
