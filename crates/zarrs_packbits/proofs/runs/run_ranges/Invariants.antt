use Rattle.std.proofs.Common.{◌≡◌, ◌++◌, ◌<◌, drop, map}
use Rattle.std.specs.List.{All}
use Rattle.zarrs_bytes.specs.PlannedRanges.{spans}
use Rattle.zarrs_packbits.specs.ReadPlan.{run_span}
use Rattle.zarrs_packbits.proofs.runs.run_ranges.Given as goal

abbrev pub invariant-loop-start : goal.invariant-loop-start
invariant-loop-start l = record {
  spans_are : map (run_span l.layout) l.runs ≡ spans l.ranges.items ++ map (run_span l.layout) (drop l.start-index l.runs);
  filled : All (λ range. range.start < range.end) l.ranges.items;
}
