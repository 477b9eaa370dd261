use Rattle.std.proofs.Common.{◌≡◌, ◌++◌, drop}
use Rattle.zarrs_chunk.specs.Numbering.{are_tuples_inside}
use Rattle.zarrs_array_to_array.specs.MovedLists.{ordered_numbers}
use Rattle.zarrs_array_to_array.proofs.transpose.ordered_places.ordered_places.Given as goal

abbrev pub invariant-loop-index : goal.invariant-loop-index
invariant-loop-index g l = record {
  inside : are_tuples_inside l.sizes (g.T.TupleList.tuples l.tuples) ≡ are_tuples_inside l.sizes (drop l.index (g.T.TupleList.tuples l.tuples));
  places : ordered_numbers l.order l.sizes (g.T.TupleList.tuples l.tuples) ≡ l.places.items ++ ordered_numbers l.order l.sizes (drop l.index (g.T.TupleList.tuples l.tuples));
}
