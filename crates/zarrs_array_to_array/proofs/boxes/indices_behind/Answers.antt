use Rattle.std.proofs.Common.{◌≡◌, ◌<◌, ◌+◌, ◌++◌, ◌∷◌, [], take, length, get_or, arith, ap, sym, ◌∙◌}
use Rattle.std.proofs.lemmas.List.{take_more, map-append}
use Rattle.zarrs_chunk.specs.Indices.{indices_behind}
use Rattle.zarrs_array_to_array.specs.Orders.{permuted}
use Rattle.zarrs_chunk.proofs.NumberedTuples.{index_behind}
use Rattle.zarrs_array_to_array.proofs.boxes.indices_behind.Goals as goal

pub loop-axis-preserved : goal.loop-axis-preserved
loop-axis-preserved c =
    let order = c.args.order.now in
    let starts = c.args.starts.now in
    let tuple = c.args.tuple.now in
    let i = c.loop-axis.axis-index in
    let axis = get_or order i 0 in
    let below : axis < length starts = c.requires.order i 0 (omega arith) in
    let here : get_or (indices_behind starts tuple) axis 0 ≡ get_or starts axis 0 + get_or tuple axis 0 = index_behind starts tuple axis below c.requires.axes in
    (c.in_ok-push.ensures {u = tt}).items
    ∙ ap (λ xs. xs ++ (get_or starts axis 0 + get_or tuple axis 0) ∷ []) c.loop-axis.invariant
    ∙ ap (λ n. permuted (take i order) (indices_behind starts tuple) ++ n ∷ []) (sym here)
    ∙ sym (map-append (λ a. get_or (indices_behind starts tuple) a 0) (take i order) (axis ∷ []))
    ∙ ap (λ axes. permuted axes (indices_behind starts tuple)) (sym (take_more order i 0 (omega arith)))
