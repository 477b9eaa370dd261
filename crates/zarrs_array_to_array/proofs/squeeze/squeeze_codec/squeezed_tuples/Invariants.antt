use Rattle.std.proofs.Common.{◌≡◌, map, take}
use Rattle.zarrs_array_to_array.specs.Squeeze.{squeezed_tuple}
use Rattle.zarrs_array_to_array.proofs.squeeze.squeeze_codec.squeezed_tuples.Given as goal

abbrev pub invariant-loop-index : goal.invariant-loop-index
invariant-loop-index g l = map (λ tuple. tuple.items) l.squeezed.items ≡ map (squeezed_tuple l.sizes) (take l.index (g.T.TupleList.tuples l.tuples))
