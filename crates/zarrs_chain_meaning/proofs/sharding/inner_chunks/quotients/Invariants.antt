use Rattle.std.proofs.Common.{◌≡◌, ◌++◌, drop}
use Rattle.zarrs_chain_meaning.specs.sharding.InnerChunks.{is_divided}
use Rattle.zarrs_grid.specs.ChunkTuples.{quotients}
use Rattle.zarrs_chain_meaning.proofs.sharding.inner_chunks.quotients.Given as goal

abbrev pub invariant-loop-axis : goal.invariant-loop-axis
invariant-loop-axis l = record {
  counts : l.counts.items ++ quotients (drop l.axis l.parts) (drop l.axis l.sizes) ≡ quotients l.parts l.sizes;
  divided : is_divided (drop l.axis l.parts) (drop l.axis l.sizes) ≡ is_divided l.parts l.sizes;
}
