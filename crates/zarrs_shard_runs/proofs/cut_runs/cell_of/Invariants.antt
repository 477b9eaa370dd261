use Rattle.zarrs_shard_runs.proofs.CellSteps.{IsReached}
use Rattle.zarrs_shard_runs.proofs.cut_runs.cell_of.Given as goal

abbrev pub invariant-loop-axis : goal.invariant-loop-axis
invariant-loop-axis l = IsReached l.parts l.sizes l.place l.axis l.rest l.number l.inside l.chunks l.elements

abbrev pub decreases-loop-axis : goal.decreases-loop-axis
decreases-loop-axis l = l.axis
