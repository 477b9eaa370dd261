use Rattle.std.proofs.Common.{◌∙◌, ap, length}
use Rattle.zarrs_array_to_array.proofs.PermutedBoxes.{order_starts}
use Rattle.zarrs_array_to_array.proofs.encoded_boxes.transposed_box.Goals as goal

pub permuted_subset-requires-clause-axes : goal.permuted_subset-requires-clause-axes
permuted_subset-requires-clause-axes c =
    ap length c.order.ensures.value ∙ order_starts c.args.codec.now c.args.shape.now c.args.subset.now c.requires.taken c.requires.inside
