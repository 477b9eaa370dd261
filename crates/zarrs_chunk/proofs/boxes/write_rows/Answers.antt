use Rattle.std.proofs.Common.{◌+◌, ◌*◌, ◌++◌, arith, get_or, sym, refl, ap, ◌∙◌}
use Rattle.std.proofs.lemmas.Iterator.{YieldsList-from_range}
use Rattle.std.proofs.lemmas.Iterator.Adapters.{items_from_extend}
use Rattle.std.specs.List.{range_with_len}
use Rattle.std.proofs.lemmas.Result.{IfOk-at_ok}
use Rattle.zarrs_chunk.proofs.BoxTuples.{flat_map-take_more}
use Rattle.zarrs_chunk.proofs.boxes.write_rows.Goals as goal

pub loop-front-preserved : goal.loop-front-preserved
loop-front-preserved c =
    let h = items_from_extend c.extend.result c.extend.ensures.ran (YieldsList-from_range _ _ c.args.len refl (omega arith)) in
    let more = flat_map-take_more (λ front. range_with_len (front * c.args.size + c.args.start) c.args.len) c.args.fronts.now c.loop-front.front-index 0 (omega arith) in
    let items = (IfOk-at_ok _ c.in_ok-extend.was h).0 in
    items ∙ ap (λ xs. xs ++ range_with_len (get_or c.args.fronts.now c.loop-front.front-index 0 * c.args.size + c.args.start) c.args.len) c.loop-front.invariant ∙ sym more
