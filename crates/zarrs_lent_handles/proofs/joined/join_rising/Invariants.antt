use Rattle.std.proofs.Common.{◌≡◌, ◌++◌, drop}
use Rattle.zarrs_lent_handles.specs.Joined.{joined_from}
use Rattle.zarrs_lent_handles.proofs.joined.join_rising.Given as goal

-- the ranges so far, and those that are to come, joined with the one that is being made
abbrev pub invariant-loop-range : goal.invariant-loop-range
invariant-loop-range l = l.joined.items ++ joined_from l.start l.end (drop l.range-index l.ranges) ≡ joined_from 0 0 l.ranges
