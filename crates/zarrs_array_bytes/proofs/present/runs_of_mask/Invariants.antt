use Rattle.std.proofs.Common.{◌≡◌, ◌≤◌, ◌+◌, ◌-◌, ◌++◌, All, nat_lt, slice_index}
use Rattle.std.specs.List.{filter, range_with_len}
use Rattle.zarrs_chunk.specs.Runs.{joined_runs}
use Rattle.zarrs_array_bytes.proofs.present.runs_of_mask.Given as goal

abbrev pub invariant-loop-place : goal.invariant-loop-place
invariant-loop-place l = record {
  order : l.start ≤ l.place;
  places : joined_runs l.runs.items ++ range_with_len l.start (l.place - l.start) ≡ filter (λ place. nat_lt 0 (slice_index l.mask place)) (range_with_len 0 l.place);
  inside : All (λ run. run.0 + run.1 ≤ l.place) l.runs.items;
}
