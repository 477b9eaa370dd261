use Rattle.std.proofs.Common.{[], length, arith, ap, ◌∙◌}
use Rattle.zarrs_chunk.proofs.Inside.{is_tuple_inside-length}
use Rattle.zarrs_array_to_array.proofs.Images.{tuple_inside-at}
use Rattle.zarrs_array_to_array.proofs.squeeze.squeeze_codec.squeezed_tuples.Goals as goal

pub squeezed_tuple-requires : goal.squeezed_tuple-requires
squeezed_tuple-requires g c =
    let sizes = c.args.sizes.now in
    let inside = tuple_inside-at sizes (g.T.TupleList.tuples c.args.tuples.now) c.loop-index.index [] c.requires.inside (omega arith) in
    record { axes = ap length c.tuple.ensures.value ∙ is_tuple_inside-length sizes _ inside }
