use Rattle.std.proofs.Common.{◌+◌, ◌*◌, ◌++◌, ◌∷◌, [], ap, sym, ◌∙◌, append_assoc}
use Rattle.zarrs_array_to_array.specs.Strides.{row}
use Rattle.zarrs_array_to_array.proofs.Rows.{row_more}
use Rattle.zarrs_array_to_array.proofs.transpose.strides.write_row.Goals as goal

pub loop-index-preserved : goal.loop-index-preserved
loop-index-preserved c =
    let next = c.args.front + c.loop-index.index * c.args.step in
    (c.in_ok-push.ensures {u = tt}).items
    ∙ ap (λ xs. xs ++ next ∷ []) c.loop-index.invariant
    ∙ append_assoc c.args.rows.now.items (row c.args.front c.args.step c.loop-index.index) (next ∷ [])
    ∙ ap (λ ys. c.args.rows.now.items ++ ys) (sym (row_more c.args.front c.args.step c.loop-index.index))
