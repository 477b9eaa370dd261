use Rattle.zarrs_grid.proofs.ArrayWritten.{region_is_written}
use Rattle.zarrs_grid.proofs.laws.writes_change_the_region.Goals as goal

pub returns : goal.returns
returns g c = record { law = region_is_written }
