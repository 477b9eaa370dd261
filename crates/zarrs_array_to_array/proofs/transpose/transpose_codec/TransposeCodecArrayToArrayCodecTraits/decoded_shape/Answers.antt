use Rattle.std.proofs.Common.{◌≡◌, true, length, ap, ap₂, sym, ◌∙◌}
use Rattle.zarrs_metadata.specs.Orders.{is_order}
use Rattle.zarrs_array_to_array.specs.Orders.{permuted, inverse}
use Rattle.zarrs_array_to_array.proofs.MappedChunks.{transposed_source}
use Rattle.zarrs_array_to_array.proofs.CodecAnswers.{axes_of}
use Rattle.zarrs_metadata.proofs.Orders.{order_parts, order_from}
use Rattle.zarrs_array_to_array.proofs.Orders.{inverse_order, length-inverse}
use Rattle.zarrs_array_to_array.proofs.transpose.transpose_codec.TransposeCodecArrayToArrayCodecTraits.decoded_shape.Goals as goal

pub permuted_shape-requires-clause-order : goal.permuted_shape-requires-clause-order
permuted_shape-requires-clause-order c =
    rw (c.as_slice.ensures.value, (c.in_ok-back.ensures {u = tt}).value) (order_from _ (inverse_order c.as_slice-order.result.now (order_parts c.as_slice-order.result.now c.as_slice-order.ensures.sound)))

pub permuted_shape-requires-clause-axes : goal.permuted_shape-requires-clause-axes
permuted_shape-requires-clause-axes c =
    ap length (c.as_slice.ensures.value ∙ (c.in_ok-back.ensures {u = tt}).value) ∙ length-inverse c.as_slice-order.result.now
    ∙ axes_of c.as_slice-order.result.now c.as_slice-sizes.result.now (sym (c.in_ok-check_axes.ensures {u = tt}).answer)

pub returns-clause-source : goal.returns-clause-source
returns-clause-source c =
    let order = c.args.self.now in
    let sizes = c.args.encoded_shape.now in
    let seen_order : c.as_slice-order.result.now ≡ order = c.as_slice-order.ensures.value ∙ c.self.view_is in
    let is : is_order order ≡ true = rw (← seen_order) c.as_slice-order.ensures.sound in
    let back : c.as_slice.result.now ≡ inverse order = c.as_slice.ensures.value ∙ (c.in_ok-back.ensures {u = tt}).value ∙ ap inverse seen_order in
    let made : permuted c.as_slice.result.now c.as_slice-sizes.result.now ≡ c.in_ok-shape.shape = cc ((c.in_ok-shape.ensures {u = tt}).answer) in
    transposed_source order sizes c.in_ok-shape.shape (order_parts order is) (sym made ∙ ap₂ (λ o s. permuted o s) back c.as_slice-sizes.ensures.value)
