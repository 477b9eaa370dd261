use Rattle.std.proofs.Common.{◌≡◌, ◌<◌, take}
use Rattle.std.specs.List.{All}
use Rattle.zarrs_chunk.specs.Runs.{joined_runs}
use Rattle.zarrs_codec.specs.ByteRanges.{range_indices}
use Rattle.zarrs_plain_vlen.specs.VlenRead.{element_numbers}
use Rattle.zarrs_plain_vlen.proofs.elements.plan_runs.Given as goal

abbrev pub invariant-loop-first : goal.invariant-loop-first
invariant-loop-first l = record {
  numbers : range_indices l.ranges.items ≡ element_numbers l.start l.offsets (joined_runs (take l.first-index l.runs));
  filled : All (λ range. range.start < range.end) l.ranges.items;
}
