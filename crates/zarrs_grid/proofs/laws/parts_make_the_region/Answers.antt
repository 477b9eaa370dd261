use Rattle.zarrs_grid.proofs.PartsJoined.{part_joined, all_joined}
use Rattle.zarrs_grid.proofs.laws.parts_make_the_region.Goals as goal

pub returns : goal.returns
returns g c = record { one = part_joined; all = all_joined }
