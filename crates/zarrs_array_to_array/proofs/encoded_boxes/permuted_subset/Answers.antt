use Rattle.std.proofs.Common.{◌∙◌, ap, rules}
use Rattle.zarrs_array_to_array.specs.Orders.{permuted}
use Rattle.zarrs_array_to_array.proofs.PermutedBoxes.{permuted_made}
use Rattle.zarrs_array_to_array.proofs.encoded_boxes.permuted_subset.Goals as goal

pub returns : goal.returns
returns c =
    let order = c.args.order.now in
    let made = permuted_made order c.args.subset.now c.in_ok-starts.starts.items c.in_ok-lengths.lengths.items c.new_with_start_shape.result c.requires.order c.requires.axes c.shape-lengths.ensures.ends
    ((c.in_ok-starts.ensures {u = tt}).value ∙ ap (permuted order) c.start.ensures.value) ((c.in_ok-lengths.ensures {u = tt}).value ∙ ap (permuted order) c.shape-lengths.ensures.value) c.new_with_start_shape.ensures.answer in
    rw made (search rules)
