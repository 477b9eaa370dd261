use Rattle.std.proofs.Common.{◌≡◌, ◌≤◌, length, nat_lt, slice_index}
use Rattle.std.specs.List.{filter, range_with_len}
use Rattle.zarrs_array_bytes.proofs.present.count_few.Given as goal

abbrev pub invariant-loop-place : goal.invariant-loop-place
invariant-loop-place l = record {
  within : l.count ≤ l.place;
  are : l.count ≡ length (filter (λ place. nat_lt 0 (slice_index l.mask place)) (range_with_len 0 l.place));
}
