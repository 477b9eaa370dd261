use Rattle.zarrs_chunk.proofs.PlaceLaws.{places_below, places_rise}
use Rattle.zarrs_chunk.proofs.laws.places_are_in_order.Goals as goal

pub returns-clause-below : goal.returns-clause-below
returns-clause-below c = λ selection sizes. places_below selection sizes

pub returns-clause-rising : goal.returns-clause-rising
returns-clause-rising c = λ region sizes. places_rise region sizes
