use Rattle.std.proofs.Common.{◌≡◌, ◌++◌, drop}
use Rattle.zarrs_lent_handles.specs.SpanHandle.{moved_ranges}
use Rattle.zarrs_lent_handles.proofs.span_handle.moved.Given as goal

-- those so far and those to come are all
abbrev pub invariant-loop-range : goal.invariant-loop-range
invariant-loop-range l = moved_ranges l.at l.ranges ≡ l.moved.items ++ moved_ranges l.at (drop l.range-index l.ranges)
