use Rattle.std.proofs.Common.{◌≡◌, length, Ok, sym, ap, ◌∙◌, subst}
use Rattle.zarrs_chunk.specs.Runs.{joined_runs}
use Rattle.zarrs_chunk.specs.declared.codec_error.CodecError.TheVariants.{InvalidBytesLength}
use Rattle.zarrs_array_bytes.specs.Filled.{blank_elements}
use Rattle.zarrs_array_bytes.specs.Present.{present_places}
use Rattle.zarrs_array_bytes.specs.Validity.{levels_fit, data_mismatch}
use Rattle.zarrs_array_bytes.proofs.FilledLemmas.{blank_fits}
use Rattle.zarrs_array_bytes.proofs.PresentAnswers.{fits_too}
use Rattle.zarrs_array_bytes.proofs.present.spread_runs.Goals as goal

pub write_elements-requires-clause-valid : goal.write_elements-requires-clause-valid
write_elements-requires-clause-valid c =
    let type = c.args.data_type.now in
    let count = length c.args.mask.now in
    let is : blank_elements type count ≡ c.in_ok-blank.blank = cc (c.in_ok-blank.ensures.exact.is) in
    subst (λ held. levels_fit InvalidBytesLength type count held ≡ Ok tt) is (blank_fits InvalidBytesLength type count)

pub write_elements-requires-clause-data_valid : goal.write_elements-requires-clause-data_valid
write_elements-requires-clause-data_valid c =
    let type = c.args.data_type.now in
    let places : present_places c.args.mask.now ≡ joined_runs c.in_ok-runs.runs.items = cc (c.in_ok-runs.ensures.places.is) in
    let count : length (present_places c.args.mask.now) ≡ length (joined_runs c.as_slice.result.now) = ap length places ∙ ap (λ runs. length (joined_runs runs)) (sym c.as_slice.ensures.value) in
    fits_too InvalidBytesLength data_mismatch type (length (joined_runs c.as_slice.result.now)) c.args.array.now
    (subst (λ n. levels_fit InvalidBytesLength type n c.args.array.now ≡ Ok tt) count c.requires.valid)
