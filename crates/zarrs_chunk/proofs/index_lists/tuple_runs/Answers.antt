use Rattle.std.proofs.Common.{arith}
use Rattle.std.proofs.lemmas.Grind.{common_steps}
use Rattle.zarrs_chunk.proofs.index_lists.tuple_runs.Goals as goal

pub loop-index-preserved : goal.loop-index-preserved
loop-index-preserved g c = record {
  inside = grind (arith, common_steps);
  places = grind (arith, common_steps);
  filled = c.in_ok-push_run.ensures.filled c.loop-index.invariant.filled;
  below = c.in_ok-push_run.ensures.below c.loop-index.invariant.below;
  apart = c.in_ok-push_run.ensures.apart c.loop-index.invariant.apart;
}
