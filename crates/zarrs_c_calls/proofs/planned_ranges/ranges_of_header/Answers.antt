use Rattle.std.proofs.Common.{rules, refl}
use Rattle.zarrs_c_calls.specs.Calls.{known_header}
use Rattle.zarrs_c_calls.specs.Plans.{planned, plan_buffers}
use Rattle.zarrs_c_calls.specs.Told.{ToldBytes}
use Rattle.zarrs_c_calls.proofs.PlanLemmas.{none_told, some_told, plan_refusal_told}
use Rattle.zarrs_c_calls.proofs.planned_ranges.ranges_of_header.Goals as goal

pub returns-in-Ok-None : goal.returns-in-Ok-None
returns-in-Ok-None c =
    let due = planned (known_header c.args.form.now) c.args.tuples c.args.numbers.now in
    record { told = none_told due 0 (plan_buffers c.args.ranges.now c.args.is_planned.now c.args.needed.now) _ (search rules) (refl, refl) }

pub returns-in-Ok-Some : goal.returns-in-Ok-Some
returns-in-Ok-Some c =
    let due = planned (known_header c.args.form.now) c.args.tuples c.args.numbers.now in
    let numbers = c.in-Ok-Some.told in
    let told : ToldBytes numbers.items c.tell_numbers.result c.args.ranges.now c.tell_numbers.new.out c.tell_numbers.new.needed = search rules in
    record { told = some_told numbers due c.tell_numbers.result (plan_buffers c.args.ranges.now c.args.is_planned.now c.args.needed.now) _ (search rules) refl told }

pub returns-in-Err : goal.returns-in-Err
returns-in-Err c =
    let due = planned (known_header c.args.form.now) c.args.tuples c.args.numbers.now in
    record { told = plan_refusal_told c.in-Err.cause due c.cause_code.result (plan_buffers c.args.ranges.now c.args.is_planned.now c.args.needed.now) c.in-Err.ensures.answer c.cause_code.ensures.value }
