use Rattle.zarrs_array_regions.proofs.PlaceReads.{region_read, region_decoded, region_sure, sure_places}
use Rattle.zarrs_array_regions.proofs.laws.regions_are_read_by_places.Goals as goal

pub returns-clause-read : goal.returns-clause-read
returns-clause-read c = region_read

pub returns-clause-decoded : goal.returns-clause-decoded
returns-clause-decoded c = region_decoded

pub returns-clause-places : goal.returns-clause-places
returns-clause-places c = sure_places

pub returns-clause-sure : goal.returns-clause-sure
returns-clause-sure c = region_sure
