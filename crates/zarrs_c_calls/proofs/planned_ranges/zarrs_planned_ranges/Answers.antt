use Rattle.std.proofs.Common.{refl}
use Rattle.zarrs_c_calls.specs.Calls.{header_given}
use Rattle.zarrs_c_calls.specs.Plans.{planned, plan_buffers}
use Rattle.zarrs_c_calls.proofs.PlanLemmas.{plan_refusal_told}
use Rattle.zarrs_c_calls.proofs.planned_ranges.zarrs_planned_ranges.Goals as goal

pub returns-in-Ok : goal.returns-in-Ok
returns-in-Ok c = record { told = rw c.in-Ok.ensures.answer c.ranges_of_header.ensures.told }

pub returns-in-Err : goal.returns-in-Err
returns-in-Err c =
    let due = planned (header_given c.args.text.now) c.args.tuples c.args.numbers.now in
    record { told = plan_refusal_told c.in-Err.cause due c.cause_code.result (plan_buffers c.args.ranges.now c.args.is_planned.now c.args.needed.now) (λ wants. rw (c.in-Err.ensures.answer wants) refl) c.cause_code.ensures.value }
