use Rattle.std.proofs.Common.{◌≡◌, ◌<◌, Some, refl, sym, ◌∙◌, ap}
use Rattle.std.specs.List.{All}
use Rattle.zarrs_chunk.specs.ChunkShape.{shape_of}
use Rattle.zarrs_array_to_array.specs.Squeeze.{squeezed}
use Rattle.zarrs_array_to_array.proofs.Indexers.{squeezed_to}
use Rattle.zarrs_array_to_array.proofs.Squeezing.{positive-squeezed}
use Rattle.zarrs_array_to_array.proofs.Transposition.{shape_of-positive}
use Rattle.zarrs_array_to_array.proofs.squeeze.squeeze_codec.SqueezeCodecArrayToArrayCodecTraits.encoded_shape.Goals as goal

pub unwrap-requires : goal.unwrap-requires
unwrap-requires c =
    let sizes = c.as_slice.result.now in
    let positive : All (λ size. 0 < size) (squeezed sizes) = positive-squeezed sizes c.as_slice.ensures.positive in
    let made : c.new.result ≡ Some (squeezed sizes) = c.new.ensures.answer ∙ ap shape_of (c.in_ok-sizes.ensures {u = tt}).value ∙ shape_of-positive (squeezed sizes) positive in
    rw made refl

pub returns-clause-map : goal.returns-clause-map
returns-clause-map c =
    let sizes = c.as_slice.result.now in
    let here = c.args.decoded_shape.now in
    let filled : All (λ size. 0 < size) (squeezed sizes) = positive-squeezed sizes c.as_slice.ensures.positive in
    let made : c.new.result ≡ Some (squeezed sizes) = c.new.ensures.answer ∙ ap shape_of (c.in_ok-sizes.ensures {u = tt}).value ∙ shape_of-positive (squeezed sizes) filled in
    let is : c.unwrap.result ≡ squeezed sizes = cc (made, c.unwrap.ensures) in
    let positive : All (λ size. 0 < size) here = rw c.as_slice.ensures.value at c.as_slice.ensures.positive in
    squeezed_to here c.unwrap.result positive (sym (is ∙ ap squeezed c.as_slice.ensures.value))
