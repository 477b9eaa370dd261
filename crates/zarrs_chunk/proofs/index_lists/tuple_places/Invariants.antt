use Rattle.std.proofs.Common.{◌≡◌, ◌++◌, drop}
use Rattle.zarrs_chunk.specs.Numbering.{are_tuples_inside, numbers_of_tuples}
use Rattle.zarrs_chunk.proofs.index_lists.tuple_places.Given as goal

abbrev pub invariant-loop-index : goal.invariant-loop-index
invariant-loop-index g l = record {
  inside : are_tuples_inside l.sizes (g.T.TupleList.tuples l.tuples) ≡ are_tuples_inside l.sizes (drop l.index (g.T.TupleList.tuples l.tuples));
  places : numbers_of_tuples l.sizes (g.T.TupleList.tuples l.tuples) ≡ l.places.items ++ numbers_of_tuples l.sizes (drop l.index (g.T.TupleList.tuples l.tuples));
}
