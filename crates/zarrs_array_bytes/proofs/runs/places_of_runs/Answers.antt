use Rattle.std.proofs.Common.{◌++◌, get_or, arith, refl, sym, ap, ◌∙◌}
use Rattle.std.specs.List.{range_with_len}
use Rattle.std.proofs.lemmas.Iterator.{YieldsList-from_range}
use Rattle.std.proofs.lemmas.Iterator.Adapters.{items_from_extend}
use Rattle.std.proofs.lemmas.Result.{IfOk-at_ok}
use Rattle.zarrs_array_bytes.proofs.RunLemmas.{joined_runs-take_more}
use Rattle.zarrs_array_bytes.proofs.runs.places_of_runs.Goals as goal

pub loop-run-preserved : goal.loop-run-preserved
loop-run-preserved c =
    let run = get_or c.args.runs.now c.loop-run.run-index (0, 0) in
    let h = items_from_extend c.extend.result c.extend.ensures.ran (YieldsList-from_range _ _ run.1 refl (omega arith)) in
    let items = (IfOk-at_ok _ c.in_ok-extend.was h).0 in
    items ∙ ap (λ xs. xs ++ range_with_len run.0 run.1) c.loop-run.invariant ∙ sym (joined_runs-take_more c.args.runs.now c.loop-run.run-index (omega arith))
