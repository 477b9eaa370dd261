use Rattle.std.proofs.Common.{List, ℕ, string_bytes, arith}
use Rattle.std.proofs.lemmas.Grind.{common_steps}
use Rattle.zarrs_array_plan.specs.declared.planned_chunk.PlannedChunk.{PlannedChunk}
use Rattle.zarrs_array_calls.proofs.PlanLemmas.{joined_more, ends_more}
use Rattle.zarrs_array_calls.proofs.crossed.joined_keys.Goals as goal

pub loop-it-preserved : goal.loop-it-preserved
loop-it-preserved c =
    let planned = c.args.planned.now in
    let i = c.loop-it.it-index in
    let it = c.it-item.result in
    let key : PlannedChunk → List ℕ = λ it. string_bytes it.key in
    let more = joined_more key planned i it c.loop-it-test.true c.it-item.is in
    let last = ends_more key planned i it c.loop-it-test.true c.it-item.is in
    record {
      keys = grind (arith, common_steps, more);
      offsets = grind (arith, common_steps, more, last);
    }
