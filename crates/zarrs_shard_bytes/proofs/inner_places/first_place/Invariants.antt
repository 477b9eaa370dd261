use Rattle.zarrs_shard_bytes.proofs.InnerPlaces.{IsReached}
use Rattle.zarrs_shard_bytes.proofs.inner_places.first_place.Given as goal

abbrev pub invariant-loop-axis : goal.invariant-loop-axis
invariant-loop-axis l = IsReached l.parts l.sizes l.counts l.number l.axis l.rest l.step l.place

abbrev pub decreases-loop-axis : goal.decreases-loop-axis
decreases-loop-axis l = l.axis
