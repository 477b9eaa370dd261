use Rattle.std.proofs.Common.{◌≡◌, ◌-◌, ◌^◌, min, take, length}
use Rattle.zarrs_codec.specs.ByteRanges.{range_indices}
use Rattle.zarrs_lent_handles.proofs.ahead_handle.ranges_len.Given as goal

abbrev pub invariant-loop-range : goal.invariant-loop-range
invariant-loop-range l = record {
  len : l.len ≡ min (length (range_indices (take l.range-index l.ranges))) (2 ^ 64 - 1);
}
