use Rattle.std.proofs.Common.{◌≡◌, map, take}
use Rattle.zarrs_array_to_array.specs.Orders.{permuted}
use Rattle.zarrs_array_to_array.proofs.transpose.ordered_indexer.ordered_tuples.Given as goal

abbrev pub invariant-loop-index : goal.invariant-loop-index
invariant-loop-index g l = map (λ tuple. tuple.items) l.ordered.items ≡ map (permuted l.order) (take l.index (g.T.TupleList.tuples l.tuples))
