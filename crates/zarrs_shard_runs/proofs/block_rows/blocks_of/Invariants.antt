use Rattle.zarrs_shard_runs.proofs.Bands.{IsRowFrom}
use Rattle.zarrs_shard_runs.proofs.block_rows.blocks_of.Given as goal

abbrev pub invariant-loop-whole : goal.invariant-loop-whole
invariant-loop-whole l = IsRowFrom l.parts l.sizes l.axis l.block l.row l.whole

abbrev pub decreases-loop-whole : goal.decreases-loop-whole
decreases-loop-whole l = l.axis
