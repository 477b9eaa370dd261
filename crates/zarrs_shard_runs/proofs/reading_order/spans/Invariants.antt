use Rattle.std.proofs.Common.{◌≡◌, length, take}
use Rattle.zarrs_chunk.specs.Runs.{EndWithin}
use Rattle.zarrs_shard_runs.specs.CutRuns.{cells}
use Rattle.zarrs_shard_runs.proofs.SpanSteps.{AreSpansBelow}
use Rattle.zarrs_shard_runs.proofs.reading_order.spans.Given as goal

abbrev pub invariant-loop-cut : goal.invariant-loop-cut
invariant-loop-cut l = record {
  counted : l.at ≡ length (cells (take l.cut-index l.sorted));
  long : length l.spans.items ≡ length l.sorted;
  spans : AreSpansBelow l.sorted l.spans.items l.cut-index;
  inside : EndWithin (length (cells l.sorted)) l.spans.items;
}
