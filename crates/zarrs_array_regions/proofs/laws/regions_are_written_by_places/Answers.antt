use Rattle.zarrs_array_regions.proofs.PlaceWrites.{region_left, written-rearranged}
use Rattle.zarrs_array_regions.proofs.laws.regions_are_written_by_places.Goals as goal

pub returns-clause-places : goal.returns-clause-places
returns-clause-places c = written-rearranged

pub returns-clause-written : goal.returns-clause-written
returns-clause-written c = region_left
