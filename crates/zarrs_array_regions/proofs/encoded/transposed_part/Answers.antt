use Rattle.std.proofs.Common.{◌≡◌, ◌<◌, ◌∙◌, ap, length, subst, sym, Ok}
use Rattle.std.specs.List.{All}
use Rattle.zarrs_array_bytes.specs.Validity.{validity}
use Rattle.zarrs_chunk.specs.ChunkShape.{product}
use Rattle.zarrs_array_regions.proofs.HeldElements.{count_is, no_count, transposed_part}
use Rattle.zarrs_array_to_array.proofs.BoxNumbers.{factors_positive}
use Rattle.zarrs_array_regions.proofs.encoded.transposed_part.Goals as goal

pub returns-in_err-count : goal.returns-in_err-count
returns-in_err-count c = absurd (no_count (product c.args.part.now.lengths) c.in_err-count.field-0.0 c.requires.counted (c.in_err-count.ensures {u = tt}).product)

pub transpose_elements-requires-clause-axes : goal.transpose_elements-requires-clause-axes
transpose_elements-requires-clause-axes c = ap length c.order.ensures.value ∙ c.requires.axes ∙ sym (ap length c.shape.ensures.value)

pub transpose_elements-requires-clause-positive : goal.transpose_elements-requires-clause-positive
transpose_elements-requires-clause-positive c = subst (λ sizes. All (λ size. 0 < size) sizes) (sym c.shape.ensures.value) (factors_positive c.args.part.now.lengths c.requires.filled)

pub transpose_elements-requires-clause-count : goal.transpose_elements-requires-clause-count
transpose_elements-requires-clause-count c = ap product c.shape.ensures.value ∙ sym (count_is (product c.args.part.now.lengths) c.in_ok-count.count c.requires.counted (c.in_ok-count.ensures {u = tt}).product)

pub transpose_elements-requires-clause-valid : goal.transpose_elements-requires-clause-valid
transpose_elements-requires-clause-valid c = subst (λ count. validity c.args.data_type.now count c.args.held.now ≡ Ok tt) (sym (count_is (product c.args.part.now.lengths) c.in_ok-count.count c.requires.counted (c.in_ok-count.ensures {u = tt}).product)) c.requires.valid

pub returns-clause-encoded : goal.returns-clause-encoded
returns-clause-encoded c =
    let count = count_is (product c.args.part.now.lengths) c.in_ok-count.count c.requires.counted (c.in_ok-count.ensures {u = tt}).product in
    transposed_part _ c.args.data_type.now c.args.part.now c.args.held.now c.shape.result.now c.order.result.now c.in_ok-count.count c.transpose_elements.result c.order.ensures.value c.shape.ensures.value count c.transpose_elements.ensures.exact

pub returns-clause-tight : goal.returns-clause-tight
returns-clause-tight c = λ tight. c.transpose_elements.ensures.tight tight.blank
