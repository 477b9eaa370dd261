use Rattle.std.proofs.Common.{◌≡◌, Ok, sym}
use Rattle.zarrs_chunk.specs.Answer.{memory}
use Rattle.zarrs_chunk.specs.AnswerLaws.{found_from}
use Rattle.zarrs_chunk.specs.Indexer.{selection_of}
use Rattle.zarrs_chunk.specs.Selection.{bounds_of}
use Rattle.zarrs_array_to_array.specs.ArrayToArrayCodec.{coordinates, squeeze}
use Rattle.zarrs_array_to_array.specs.EncodedSelection.{selection_in}
use Rattle.zarrs_codec.specs.MappedSelection.{IsImageBy}
use Rattle.zarrs_array_to_array.specs.Squeeze.{squeezed}
use Rattle.zarrs_array_to_array.proofs.Images.{squeezed_image}
use Rattle.zarrs_array_to_array.proofs.squeeze.squeeze_codec.SqueezeCodecArrayToArrayCodecTraits.encoded_indexer.Goals as goal

pub returns-clause-places : goal.returns-clause-places
returns-clause-places c =
    let sizes = c.args.decoded_shape.now in
    let selection = selection_of c.args.indexer.now in
    let inside : bounds_of selection sizes ≡ Ok tt = sym ((c.in_ok-check.ensures {u = tt}).answer) in
    let asked = rw c.as_slice.ensures.value at c.squeezed_indexer.ensures.answer in
    found_from memory selection_of c.squeezed_indexer.result (Ok (selection_in squeeze sizes (squeezed sizes) selection)) (λ image. IsImageBy (coordinates squeeze sizes) sizes selection image) asked
    (λ image e. let same : selection_in squeeze sizes (squeezed sizes) selection ≡ image = cc in rw same at (squeezed_image sizes selection inside))
