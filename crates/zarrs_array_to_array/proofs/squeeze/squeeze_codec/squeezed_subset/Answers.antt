use Rattle.std.proofs.Common.{◌≡◌, ◌<◌, ◌^◌, length, Ok, arith, refl, ap, ap₂, ◌∙◌}
use Rattle.std.specs.List.{All}
use Rattle.std.proofs.lemmas.List.{get_or_default}
use Rattle.zarrs_chunk.specs.ArraySubset.{subset_of_start_shape}
use Rattle.zarrs_chunk.proofs.Inside.{is_box_inside-lengths}
use Rattle.zarrs_array_to_array.specs.SqueezedBoxes.{squeezed_lengths, squeezed_region}
use Rattle.zarrs_array_to_array.specs.Squeeze.{squeezed_tuple}
use Rattle.zarrs_array_to_array.proofs.Indexers.{squeezed_made}
use Rattle.zarrs_array_to_array.proofs.squeeze.squeeze_codec.squeezed_subset.Goals as goal

pub squeezed_tuple-requires : goal.squeezed_tuple-requires
squeezed_tuple-requires c =
    record { axes = ap length c.start.ensures.value ∙ (is_box_inside-lengths c.args.sizes.now c.args.subset.now.starts c.args.subset.now.lengths c.requires.inside).0 }

pub squeezed_lengths-requires : goal.squeezed_lengths-requires
squeezed_lengths-requires c =
    record { axes = ap length c.shape.ensures.value ∙ (is_box_inside-lengths c.args.sizes.now c.args.subset.now.starts c.args.subset.now.lengths c.requires.inside).1 }

pub returns : goal.returns
returns c =
    let sizes = c.args.sizes.now in
    let region = c.args.subset.now in
    let fits : All (λ size. size < 2 ^ 64) sizes = λ k d l. rw (get_or_default sizes k d 0 l) (let f = c.type_inv.sizes k in omega (arith, f)) in
    let starts : c.in_ok-starts.starts.items ≡ squeezed_tuple sizes region.starts = (c.in_ok-starts.ensures {u = tt}).value ∙ ap (squeezed_tuple sizes) c.start.ensures.value in
    let lengths : c.in_ok-lengths.lengths.items ≡ squeezed_lengths sizes region.lengths = (c.in_ok-lengths.ensures {u = tt}).value ∙ ap (squeezed_lengths sizes) c.shape.ensures.value in
    let made : c.new_with_start_shape.result ≡ Ok (squeezed_region sizes region) = c.new_with_start_shape.ensures.answer ∙ ap₂ (λ s n. subset_of_start_shape s n) starts lengths ∙ squeezed_made sizes region c.requires.inside fits in
    record { answer = rw made refl }
