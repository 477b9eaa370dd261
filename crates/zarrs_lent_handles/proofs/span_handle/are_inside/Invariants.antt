use Rattle.std.proofs.Common.{◌≡◌, drop, nat_le}
use Rattle.std.specs.List.{list_all}
use Rattle.zarrs_lent_handles.proofs.span_handle.are_inside.Given as goal

-- those so far are inside
abbrev pub invariant-loop-range : goal.invariant-loop-range
invariant-loop-range l = list_all (λ range. nat_le range.end l.len) l.ranges ≡ list_all (λ range. nat_le range.end l.len) (drop l.range-index l.ranges)
