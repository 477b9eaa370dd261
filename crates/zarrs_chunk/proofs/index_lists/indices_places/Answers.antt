use Rattle.std.proofs.Common.{rules, ◌≡◌, Ok}
use Rattle.zarrs_chunk.specs.Selection.{indices, places_of}
use Rattle.zarrs_chunk.proofs.PlaceLaws.{known_below}
use Rattle.zarrs_chunk.proofs.index_lists.indices_places.Goals as goal

pub returns-clause-below : goal.returns-clause-below
returns-clause-below g c =
    let tuples = g.T.TupleList.tuples c.args.tuples.now in
    let is : places_of (indices tuples) c.args.shape.now ≡ Ok c.in_ok-places.places.items = search rules in
    known_below (indices tuples) c.args.shape.now c.in_ok-places.places.items is
