use Rattle.std.proofs.Common.{◌≡◌, ◌++◌, drop}
use Rattle.zarrs_chain_meaning.specs.sharding.ShardSteps.{inner_start}
use Rattle.zarrs_chain_meaning.proofs.sharding.inner_chunks.inner_start.Given as goal

abbrev pub invariant-loop-axis : goal.invariant-loop-axis
invariant-loop-axis l = l.start.items ++ inner_start (drop l.axis l.parts) (drop l.axis l.numbers) ≡ inner_start l.parts l.numbers
