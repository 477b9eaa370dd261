use Rattle.zarrs_shard_runs.proofs.InnerStarts.{IsStarted}
use Rattle.zarrs_shard_runs.proofs.inner_boxes.inner_start.Given as goal

abbrev pub invariant-loop-axis : goal.invariant-loop-axis
invariant-loop-axis l = IsStarted l.parts l.sizes l.starts l.lengths l.axis l.number l.inside.items
