use Rattle.std.proofs.Common.{◌≡◌, ◌<◌, map, take}
use Rattle.std.specs.List.{All}
use Rattle.zarrs_chunk.specs.Runs.{joined_runs}
use Rattle.zarrs_codec.specs.ByteRanges.{range_indices}
use Rattle.zarrs_bytes.specs.PartialRead.{place_bytes}
use Rattle.zarrs_bytes.specs.PlannedRanges.{element_span, spans}
use Rattle.zarrs_bytes.proofs.batches.run_ranges.Given as goal

abbrev pub invariant-loop-start : goal.invariant-loop-start
invariant-loop-start l = record {
  bytes : range_indices l.ranges.items ≡ place_bytes l.size (joined_runs (take l.start-index l.runs));
  filled : All (λ range. range.start < range.end) l.ranges.items;
  each : spans l.ranges.items ≡ map (element_span l.size) (take l.start-index l.runs);
}
