use Rattle.std.proofs.Common.{Ok, ap, sym, ◌∙◌}
use Rattle.zarrs_array_calls.specs.CrossedPlans.{crossed_chunks}
use Rattle.zarrs_array_calls.proofs.PlanLemmas.{plan_due}
use Rattle.zarrs_array_calls.proofs.array_plan.plan.Goals as goal

pub returns : goal.returns
returns c =
    let lists = (c.in_ok-crossed.ensures {u = tt}).value ∙ ap crossed_chunks c.as_slice.ensures.value in
    let due = plan_due c.args.shape.now c.args.chunk_shape.now c.args.encoding c.args.separator c.args.region.now c.in_ok-grid.grid c.in_ok-region.region
    c.in_ok-planned.planned.items c.in_ok-grid.ensures.answer c.in_ok-region.ensures.answer c.in_ok-planned.ensures.answer.is in
    record { answer = due ∙ ap Ok (sym lists) }
