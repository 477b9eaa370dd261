use Rattle.std.proofs.Common.{◌≡◌, drop}
use Rattle.zarrs_chunk.specs.Numbering.{are_tuples_inside}
use Rattle.zarrs_chunk.proofs.index_lists.are_inside.Given as goal

abbrev pub invariant-loop-index : goal.invariant-loop-index
invariant-loop-index g l = are_tuples_inside l.sizes (g.T.TupleList.tuples l.tuples) ≡ are_tuples_inside l.sizes (drop l.index (g.T.TupleList.tuples l.tuples))
