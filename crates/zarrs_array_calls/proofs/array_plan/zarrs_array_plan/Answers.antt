use Rattle.std.proofs.Common.{inl, inr, refl}
use Rattle.zarrs_array_calls.specs.CrossedPlans.{array_plan, lists_in}
use Rattle.zarrs_array_calls.proofs.RefusalNumbers.{refuses}
use Rattle.zarrs_array_calls.proofs.array_plan.zarrs_array_plan.Goals as goal

pub returns-in-Ok : goal.returns-in-Ok
returns-in-Ok c = record { told = inl (lists_in c.in-Ok.plan, c.in-Ok.ensures.answer, c.tell_plan.ensures.told) }

pub returns-in-Err : goal.returns-in-Err
returns-in-Err c =
    let due = array_plan c.args.shape.now c.args.chunk_shape.now c.args.encoding c.args.separator c.args.region.now in
    record { told = inr (refuses c.in-Err.refusal due c.refusal_number.result c.in-Err.ensures.answer c.refusal_number.ensures.value, refl, refl) }
