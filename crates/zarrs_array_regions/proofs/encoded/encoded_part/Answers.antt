use Rattle.std.proofs.Common.{◌≡◌, ◌<◌, ◌∙◌, ap, subst, sym, Ok}
use Rattle.std.specs.List.{All}
use Rattle.zarrs_array_bytes.specs.Validity.{validity}
use Rattle.zarrs_chunk.specs.ChunkShape.{product}
use Rattle.zarrs_array_to_array.specs.EncodedBoxes.{FitsBox}
use Rattle.zarrs_array_to_array.specs.Mapping.{mapping_of}
use Rattle.zarrs_array_to_array.proofs.BoxNumbers.{factors_positive}
use Rattle.zarrs_array_regions.proofs.HeldElements.{count_is, no_count}
use Rattle.zarrs_array_regions.proofs.PartCalls.{encoded_part_is}
use Rattle.zarrs_array_regions.proofs.encoded.encoded_part.Goals as goal

pub returns-in_err-count : goal.returns-in_err-count
returns-in_err-count c = absurd (no_count (product c.args.part.now.lengths) c.in_err-count.field-0.0 c.requires.counted (c.in_err-count.ensures {u = tt}).product)

pub encode_part-requires-clause-fits : goal.encode_part-requires-clause-fits
encode_part-requires-clause-fits c = subst (FitsBox (mapping_of c.args.codec.now)) (sym c.shape.ensures.value) c.requires.axes

pub encode_part-requires-clause-positive : goal.encode_part-requires-clause-positive
encode_part-requires-clause-positive c = subst (λ lengths. All (λ len. 0 < len) lengths) (sym c.shape.ensures.value) (factors_positive c.args.part.now.lengths c.requires.filled)

pub encode_part-requires-clause-count : goal.encode_part-requires-clause-count
encode_part-requires-clause-count c = ap product c.shape.ensures.value ∙ sym (count_is (product c.args.part.now.lengths) c.in_ok-count.count c.requires.counted (c.in_ok-count.ensures {u = tt}).product)

pub encode_part-requires-clause-valid : goal.encode_part-requires-clause-valid
encode_part-requires-clause-valid c = subst (λ count. validity c.args.data_type.now count c.args.held ≡ Ok tt) (sym (count_is (product c.args.part.now.lengths) c.in_ok-count.count c.requires.counted (c.in_ok-count.ensures {u = tt}).product)) c.requires.valid

pub returns-clause-encoded : goal.returns-clause-encoded
returns-clause-encoded c =
    let count = count_is (product c.args.part.now.lengths) c.in_ok-count.count c.requires.counted (c.in_ok-count.ensures {u = tt}).product in
    encoded_part_is (mapping_of c.args.codec.now) c.args.data_type.now c.args.part.now c.args.held c.shape.result.now c.in_ok-count.count c.encode_part.result c.shape.ensures.value count c.encode_part.ensures.encoded
