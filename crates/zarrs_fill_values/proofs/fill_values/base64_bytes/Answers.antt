use Rattle.std.proofs.Common.{◌∙◌, ap, sym}
use Rattle.std.specs.Prelude.{ok_or}
use Rattle.base64.specs.Engines.{standard}
use Rattle.base64.specs.GeneralPurpose.{decode_of}
use Rattle.zarrs_fill_values.specs.declared.element_error.ElementError.TheVariants.{InvalidFillValue}
use Rattle.zarrs_fill_values.proofs.Texts.{base64_found, base64_none}
use Rattle.zarrs_fill_values.proofs.fill_values.base64_bytes.Goals as goal

pub returns-in-Ok : goal.returns-in-Ok
returns-in-Ok c =
    record { answer = ap (λ o. ok_or o InvalidFillValue) (base64_found c.args.text.now c.in-Ok.bytes.items (ap (decode_of standard) (sym c.as_bytes.ensures.value) ∙ c.in-Ok.ensures.ok)) }

pub returns-in-Err-DecodeError : goal.returns-in-Err-DecodeError
returns-in-Err-DecodeError c =
    let failed = rw c.in-Err-DecodeError.field-0-is at c.in-Err-DecodeError.ensures.err in
    record { answer = λ _. ap (λ o. ok_or o InvalidFillValue) (base64_none c.args.text.now c.in-Err-DecodeError.field-0-0 (ap (decode_of standard) (sym c.as_bytes.ensures.value) ∙ failed)) }
