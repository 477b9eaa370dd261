use Rattle.std.proofs.Common.{ap, ◌∙◌}
use Rattle.zarrs_c_calls.specs.Plans.{range_numbers}
use Rattle.zarrs_c_calls.proofs.plan.joined_numbers.Goals as goal

pub returns-clause-numbers : goal.returns-clause-numbers
returns-clause-numbers c =
    (c.in_ok-joined.joined.items, c.in_ok-numbers_of.ensures.numbers ∙ ap range_numbers c.as_slice.ensures.value, c.in_ok-joined.ensures.joins)
