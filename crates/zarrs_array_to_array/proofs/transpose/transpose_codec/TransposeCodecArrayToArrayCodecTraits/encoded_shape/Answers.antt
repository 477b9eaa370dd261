use Rattle.std.proofs.Common.{rules, ◌≡◌, ◌<◌, Ok, true, length, refl, sym, ◌∙◌}
use Rattle.std.specs.List.{All}
use Rattle.zarrs_chunk.specs.Answer.{memory}
use Rattle.zarrs_chunk.specs.AnswerLaws.{found_from}
use Rattle.zarrs_codec.specs.CoordinateMap.{IsMapTo}
use Rattle.zarrs_metadata.specs.Orders.{is_order}
use Rattle.zarrs_array_to_array.specs.ArrayToArrayCodec.{coordinates, transpose}
use Rattle.zarrs_array_to_array.specs.Orders.{permuted}
use Rattle.zarrs_array_to_array.proofs.CodecAnswers.{axes_of}
use Rattle.zarrs_array_to_array.proofs.Indexers.{transposed_to}
use Rattle.zarrs_array_to_array.proofs.Refusals.{no_fault_from}
use Rattle.zarrs_array_to_array.proofs.transpose.transpose_codec.TransposeCodecArrayToArrayCodecTraits.encoded_shape.Goals as goal

pub returns-clause-map : goal.returns-clause-map
returns-clause-map c =
    let order = c.args.self.now in
    let sizes = c.args.decoded_shape.now in
    let seen_order : c.as_slice-order.result.now ≡ order = c.as_slice-order.ensures.value ∙ c.self.view_is in
    let is : is_order order ≡ true = rw (← seen_order) c.as_slice-order.ensures.sound in
    let axes : length order ≡ length sizes = axes_of order sizes (rw (seen_order, c.as_slice-sizes.ensures.value) at (sym (c.in_ok-check_axes.ensures {u = tt}).answer)) in
    let positive : All (λ size. 0 < size) sizes = rw c.as_slice-sizes.ensures.value at c.as_slice-sizes.ensures.positive in
    let made = rw (seen_order, c.as_slice-sizes.ensures.value) at c.permuted_shape.ensures.answer in
    found_from memory (λ shape. shape) c.permuted_shape.result (Ok (permuted order sizes)) (λ next. IsMapTo (coordinates (transpose order) sizes) sizes next) made
    (λ next e. transposed_to order sizes next is axes positive e)

pub returns-clause-answer : goal.returns-clause-answer
returns-clause-answer c =
    record {
      is = search rules;
      no_fault = no_fault_from (λ shape. shape) c.permuted_shape.result (Ok (permuted c.as_slice-order.result.now c.as_slice-sizes.result.now)) c.permuted_shape.ensures.answer refl;
    }
