use Rattle.zarrs_codecs.proofs.PlannedPlaces.{planned_are_meant}
use Rattle.zarrs_codecs.proofs.laws.planned_places_are_meant.Goals as goal

pub returns : goal.returns
returns g c = record { law = planned_are_meant _ }
