use Rattle.zarrs_array_regions.proofs.WindowMaps.{windows_select, windows_update, windows_compose}
use Rattle.zarrs_array_regions.proofs.laws.windows_are_kept.Goals as goal

pub returns-clause-select : goal.returns-clause-select
returns-clause-select c = windows_select

pub returns-clause-update : goal.returns-clause-update
returns-clause-update c = windows_update

pub returns-clause-composed : goal.returns-clause-composed
returns-clause-composed c = windows_compose
