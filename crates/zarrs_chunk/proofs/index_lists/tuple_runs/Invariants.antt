use Rattle.std.proofs.Common.{◌≡◌, ◌<◌, ◌≤◌, ◌+◌, ◌++◌, drop}
use Rattle.std.specs.List.{All}
use Rattle.zarrs_chunk.specs.ChunkShape.{product}
use Rattle.zarrs_chunk.specs.Numbering.{are_tuples_inside, numbers_of_tuples}
use Rattle.zarrs_chunk.specs.Runs.{joined_runs, AreApart}
use Rattle.zarrs_chunk.proofs.index_lists.tuple_runs.Given as goal

abbrev pub invariant-loop-index : goal.invariant-loop-index
invariant-loop-index g l = record {
  inside : are_tuples_inside l.sizes (g.T.TupleList.tuples l.tuples) ≡ are_tuples_inside l.sizes (drop l.index (g.T.TupleList.tuples l.tuples));
  places : numbers_of_tuples l.sizes (g.T.TupleList.tuples l.tuples) ≡ joined_runs l.runs.items ++ numbers_of_tuples l.sizes (drop l.index (g.T.TupleList.tuples l.tuples));
  filled : All (λ run. 0 < run.1) l.runs.items;
  below : All (λ run. run.0 + run.1 ≤ product l.sizes) l.runs.items;
  apart : AreApart l.runs.items;
}
