use Rattle.std.proofs.Common.{◌≡◌, ◌-◌}
use Rattle.std.specs.List.{list_all, range_with_len}
use Rattle.zarrs_codec.specs.FencedHandle.{is_fenced}
use Rattle.zarrs_codec.proofs.testing.fenced_handle.has_between.Given as goal

abbrev pub invariant-loop-at : goal.invariant-loop-at
invariant-loop-at l =
    list_all (is_fenced l.ranges) (range_with_len l.start (l.end - l.start))
    ≡ list_all (is_fenced l.ranges) (range_with_len l.at (l.end - l.at))

abbrev pub decreases-loop-at : goal.decreases-loop-at
decreases-loop-at l = l.end - l.at
