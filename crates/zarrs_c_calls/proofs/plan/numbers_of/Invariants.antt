use Rattle.std.proofs.Common.{◌≡◌, take}
use Rattle.zarrs_c_calls.specs.Plans.{range_numbers}
use Rattle.zarrs_c_calls.proofs.plan.numbers_of.Given as goal

-- the numbers so far
abbrev pub invariant-loop-range : goal.invariant-loop-range
invariant-loop-range l = l.numbers.items ≡ range_numbers (take l.range-index l.ranges)
