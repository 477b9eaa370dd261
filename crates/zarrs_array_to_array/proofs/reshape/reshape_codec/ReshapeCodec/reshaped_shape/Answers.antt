use Rattle.std.proofs.Common.{◌≡◌, ◌<◌, ◌/◌, Ok, Some, map, refl, arith, sym, ap, ◌∙◌}
use Rattle.zarrs_chunk.specs.Answer.{checked_u64}
use Rattle.zarrs_chunk.specs.ChunkShape.{product}
use Rattle.zarrs_metadata.specs.Dims.{autos}
use Rattle.zarrs_array_to_array.specs.Reshape.{told_sizes, reshaped}
use Rattle.zarrs_metadata.specs.ReshapeShape.{dim_of}
use Rattle.zarrs_array_to_array.proofs.Reshaping.{shape_of-told, told_positive, checked_positive, quotient_positive, reshaped_plain}
use Rattle.zarrs_array_to_array.proofs.reshape.reshape_codec.ReshapeCodec.reshaped_shape.Goals as goal

pub unwrap-others-requires : goal.unwrap-others-requires
unwrap-others-requires c =
    let made = c.in_ok-sizes_with.field-0.items in
    let is : c.new.result ≡ Some made = c.new.ensures.answer ∙ shape_of-told 1 c.as_slice-sizes.result.now (map dim_of c.as_slice-dims.result.now) made (omega arith) c.as_slice-dims.ensures.sound c.as_slice-sizes.ensures.positive (c.in_ok-sizes_with.ensures {u = tt}).answer in
    rw is refl

pub returns-then-count_autos-eq0 : goal.returns-then-count_autos-eq0
returns-then-count_autos-eq0 c =
    let dims = map dim_of c.as_slice-dims.result.now in
    let sizes = c.as_slice-sizes.result.now in
    let made = c.in_ok-sizes_with.field-0.items in
    let told : told_sizes 1 sizes dims ≡ Ok made = (c.in_ok-sizes_with.ensures {u = tt}).answer in
    let is : c.new.result ≡ Some made = c.new.ensures.answer ∙ shape_of-told 1 sizes dims made (omega arith) c.as_slice-dims.ensures.sound c.as_slice-sizes.ensures.positive told in
    let others : c.unwrap-others.result ≡ made = cc (is, c.unwrap-others.ensures) in
    let input : checked_u64 (product sizes) ≡ Ok c.in_ok-count.count = ap (λ s. checked_u64 (product s)) c.as_slice-sizes.ensures.value ∙ sym ((c.in_ok-count.ensures {u = tt}).answer) in
    let output : checked_u64 (product made) ≡ Ok c.in_ok-known.known = ap (λ s. checked_u64 (product s)) (sym others) ∙ sym ((c.in_ok-known.ensures {u = tt}).answer) in
    let none : autos dims ≡ 0 = sym c.count_autos.ensures.count ∙ c.if-count_autos-eq0.true in
    let answer : reshaped dims sizes ≡ Ok made = reshaped_plain dims sizes made c.in_ok-count.count c.in_ok-known.known told input output none c.if-count-known.false in
    let dims_are : dims ≡ c.args.self.now = c.as_slice-dims.ensures.value ∙ c.self.view_is in
    record { answer = rw (← dims_are, ← c.as_slice-sizes.ensures.value, others) answer }

pub nonzero_rem-count : goal.nonzero_rem-count
nonzero_rem-count c =
    let dims = map dim_of c.as_slice-dims.result.now in
    let sizes = c.as_slice-sizes.result.now in
    let made = c.in_ok-sizes_with.field-0.items in
    let told : told_sizes 1 sizes dims ≡ Ok made = (c.in_ok-sizes_with.ensures {u = tt}).answer in
    let is : c.new.result ≡ Some made = c.new.ensures.answer ∙ shape_of-told 1 sizes dims made (omega arith) c.as_slice-dims.ensures.sound c.as_slice-sizes.ensures.positive told in
    let others : c.unwrap-others.result ≡ made = cc (is, c.unwrap-others.ensures) in
    let output : checked_u64 (product made) ≡ Ok c.in_ok-known.known = ap (λ s. checked_u64 (product s)) (sym others) ∙ sym ((c.in_ok-known.ensures {u = tt}).answer) in
    checked_positive made c.in_ok-known.known (told_positive 1 sizes dims made (omega arith) c.as_slice-dims.ensures.sound c.as_slice-sizes.ensures.positive told) output

pub nonzero_div-count : goal.nonzero_div-count
nonzero_div-count c =
    let dims = map dim_of c.as_slice-dims.result.now in
    let sizes = c.as_slice-sizes.result.now in
    let made = c.in_ok-sizes_with.field-0.items in
    let told : told_sizes 1 sizes dims ≡ Ok made = (c.in_ok-sizes_with.ensures {u = tt}).answer in
    let is : c.new.result ≡ Some made = c.new.ensures.answer ∙ shape_of-told 1 sizes dims made (omega arith) c.as_slice-dims.ensures.sound c.as_slice-sizes.ensures.positive told in
    let others : c.unwrap-others.result ≡ made = cc (is, c.unwrap-others.ensures) in
    let output : checked_u64 (product made) ≡ Ok c.in_ok-known.known = ap (λ s. checked_u64 (product s)) (sym others) ∙ sym ((c.in_ok-known.ensures {u = tt}).answer) in
    checked_positive made c.in_ok-known.known (told_positive 1 sizes dims made (omega arith) c.as_slice-dims.ensures.sound c.as_slice-sizes.ensures.positive told) output

pub unwrap-requires : goal.unwrap-requires
unwrap-requires c =
    let dims = map dim_of c.as_slice-dims.result.now in
    let sizes = c.as_slice-sizes.result.now in
    let made = c.in_ok-sizes_with-2.field-0.items in
    let input : checked_u64 (product sizes) ≡ Ok c.in_ok-count.count = ap (λ s. checked_u64 (product s)) c.as_slice-sizes.ensures.value ∙ sym ((c.in_ok-count.ensures {u = tt}).answer) in
    let left : 0 < c.in_ok-count.count / c.in_ok-known.known = quotient_positive c.in_ok-count.count c.in_ok-known.known c.if-count-known-ne0.false (checked_positive sizes c.in_ok-count.count c.as_slice-sizes.ensures.positive input) in
    let is : c.new-2.result ≡ Some made = c.new-2.ensures.answer ∙ shape_of-told (c.in_ok-count.count / c.in_ok-known.known) sizes dims made left c.as_slice-dims.ensures.sound c.as_slice-sizes.ensures.positive (c.in_ok-sizes_with-2.ensures {u = tt}).answer in
    rw is refl
