use Rattle.std.proofs.Common.{◌∙◌, Ok, Err, refl}
use Rattle.std.specs.declared.borrow.CowSlice.TheVariants as cow
use Rattle.std.proofs.lemmas.Result.{err_from_is_err_and}
use Rattle.zarrs_data_type.specs.Form.{form_of}
use Rattle.zarrs_vlen_v2.proofs.ByGrammar.{vlen_v2_encodes}
use Rattle.zarrs_vlen_v2.proofs.Encoding.{value_of}
use Rattle.zarrs_vlen_v2.proofs.vlen_v2_codec.VlenV2Codec.encode.Goals as goal

pub returns-in_err-value : goal.returns-in_err-value
returns-in_err-value c =
    let codec = c.args.self.now in
    let form = form_of c.args.shape.now c.args.data_type.now c.args.fill_value.now in
    let value = value_of codec form c.in_ok-encoded_representation.field-0 c.args.elements c.in_ok-num_elements.field-0 c.in_ok-bytes.bytes.now c.in_ok-bytes.offsets.now c.as_slice.result.now c.in_ok-encoded_representation.ensures.answer c.in_ok-num_elements.ensures.answer c.in_ok-validate.ensures.exact c.in_ok-bytes.ensures.answer c.as_slice.ensures.value in
    let p = err_from_is_err_and c.from_residual-in_err-value.result c.from_residual-in_err-value.ensures.1 in
    let answer = c.in_err-value.ensures.answer in
    record { encodes = rw (p.1, p.2) (vlen_v2_encodes codec form c.args.elements (Err c.in_err-value.field-0.0) (λ e. value ∙ answer.is e) answer.no_fault) }

pub returns : goal.returns
returns c =
    let codec = c.args.self.now in
    let form = form_of c.args.shape.now c.args.data_type.now c.args.fill_value.now in
    let value = value_of codec form c.in_ok-encoded_representation.field-0 c.args.elements c.in_ok-num_elements.field-0 c.in_ok-bytes.bytes.now c.in_ok-bytes.offsets.now c.as_slice.result.now c.in_ok-encoded_representation.ensures.answer c.in_ok-num_elements.ensures.answer c.in_ok-validate.ensures.exact c.in_ok-bytes.ensures.answer c.as_slice.ensures.value in
    record { encodes = vlen_v2_encodes codec form c.args.elements (Ok (cow.Owned c.in_ok-value.value)) (value ∙ c.in_ok-value.ensures.answer.is) refl }
