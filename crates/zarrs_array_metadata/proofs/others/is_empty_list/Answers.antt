use Rattle.std.proofs.Common.{◌∙◌, ◌==◌, length, ap, sym}
use Rattle.serde_json.proofs.Views.{items_len-items_view}
use Rattle.zarrs_array_metadata.proofs.others.is_empty_list.Goals as goal

pub returns : goal.returns
returns c =
    record { value = c.is_empty.ensures ∙ ap (λ xs. length xs == 0) c.as_slice.ensures.value ∙ ap (λ n. n == 0) (sym (items_len-items_view c.args.items.now.items)) }
