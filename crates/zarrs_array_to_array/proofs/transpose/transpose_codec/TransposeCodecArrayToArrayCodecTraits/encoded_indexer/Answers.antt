use Rattle.std.proofs.Common.{◌≡◌, Ok, true, map, length, sym, ◌∙◌}
use Rattle.zarrs_chunk.specs.Answer.{memory}
use Rattle.zarrs_chunk.specs.AnswerLaws.{found_from}
use Rattle.zarrs_chunk.specs.Indexer.{selection_of}
use Rattle.zarrs_chunk.specs.Selection.{indices, tuples_of, bounds_of}
use Rattle.zarrs_array_to_array.specs.ArrayToArrayCodec.{coordinates, transpose}
use Rattle.zarrs_codec.specs.MappedSelection.{IsImageBy}
use Rattle.zarrs_metadata.specs.Orders.{is_order}
use Rattle.zarrs_array_to_array.specs.Orders.{permuted}
use Rattle.zarrs_array_to_array.proofs.CodecAnswers.{axes_of}
use Rattle.zarrs_array_to_array.proofs.Indexers.{transposed_image_by}
use Rattle.zarrs_array_to_array.proofs.transpose.transpose_codec.TransposeCodecArrayToArrayCodecTraits.encoded_indexer.Goals as goal

pub returns-clause-places : goal.returns-clause-places
returns-clause-places c =
    let order = c.args.self.now in
    let sizes = c.args.decoded_shape.now in
    let selection = selection_of c.args.indexer.now in
    let inside : bounds_of selection sizes ≡ Ok tt = sym ((c.in_ok-check.ensures {u = tt}).answer) in
    let seen_order : c.as_slice-order.result.now ≡ order = c.as_slice-order.ensures.value ∙ c.self.view_is in
    let is : is_order order ≡ true = rw (← seen_order) c.as_slice-order.ensures.sound in
    let axes : length order ≡ length sizes = axes_of order sizes (rw (seen_order, c.as_slice-sizes.ensures.value) at (sym (c.in_ok-check_axes.ensures {u = tt}).answer)) in
    let asked = rw seen_order at c.ordered_indexer.ensures.answer.is in
    found_from memory selection_of c.ordered_indexer.result (Ok (indices (map (permuted order) (tuples_of selection)))) (λ image. IsImageBy (coordinates (transpose order) sizes) sizes selection image) asked
    (λ image e. let same : indices (map (permuted order) (tuples_of selection)) ≡ image = cc in rw same at (transposed_image_by order sizes selection is axes inside))
