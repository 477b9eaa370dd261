use Rattle.std.proofs.Common.{◌≡◌, drop}
use Rattle.std.specs.List.{list_all}
use Rattle.zarrs_codec.specs.ByteRanges.{range_indices}
use Rattle.zarrs_codec.specs.FencedHandle.{is_fenced}
use Rattle.zarrs_codec.proofs.testing.fenced_handle.has_ranges.Given as goal

abbrev pub invariant-loop-other : goal.invariant-loop-other
invariant-loop-other l =
    list_all (is_fenced l.ranges) (range_indices l.others)
    ≡ list_all (is_fenced l.ranges) (range_indices (drop l.other-index l.others))
