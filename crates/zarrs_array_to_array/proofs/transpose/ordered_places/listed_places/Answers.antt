use Rattle.std.proofs.Common.{not, ap, arith, sym, ◌∙◌}
use Rattle.std.specs.Prelude.{is_ok}
use Rattle.zarrs_chunk.specs.ChunkShape.{product}
use Rattle.zarrs_array_to_array.proofs.ListedPlaces.{counted_below, list_moved}
use Rattle.zarrs_array_to_array.proofs.transpose.ordered_places.listed_places.Goals as goal

pub returns : goal.returns
returns g c =
    let sizes = c.as_slice-sizes.result.now in
    let small = counted_below (product c.args.shape.now) (ap is_ok (sym c.num_elements.ensures.answer) ∙ c.is_err.ensures.negation ∙ ap not c.if-is_err.false) in
    record { moved = rw (← c.as_slice-sizes.ensures.value) (list_moved c.args.order.now sizes (g.T.TupleList.tuples c.args.tuples.now) c.ordered_places.result c.requires.order (omega arith) (rw c.as_slice-sizes.ensures.value small) c.ordered_places.ensures.inside c.ordered_places.ensures.places) }
