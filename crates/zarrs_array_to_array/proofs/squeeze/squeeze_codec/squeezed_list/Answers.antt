use Rattle.std.proofs.Common.{sym}
use Rattle.zarrs_array_to_array.proofs.CheckedTuples.{tuples_inside}
use Rattle.zarrs_array_to_array.proofs.squeeze.squeeze_codec.squeezed_list.Goals as goal

pub squeezed_tuples-requires : goal.squeezed_tuples-requires
squeezed_tuples-requires g c = record { inside = tuples_inside (g.T.TupleList.tuples c.args.tuples.now) c.args.sizes.now (sym c.requires.inside) }
