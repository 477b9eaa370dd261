use Rattle.std.proofs.Common.{◌∙◌, ◌==◌, length, ap, sym}
use Rattle.serde_json.proofs.Views.{items_len-items_view}
use Rattle.zarrs_array_metadata.proofs.others.has_as_many.Goals as goal

pub returns : goal.returns
returns c =
    record { value = ap (λ n. n == c.args.axes) (ap length c.as_slice.ensures.value ∙ sym (items_len-items_view c.args.items.now.items)) }
