use Rattle.std.proofs.Common.{◌∙◌}
use Rattle.zarrs_fill_values.proofs.Texts.{text_read}
use Rattle.zarrs_fill_values.proofs.fill_values.text_bytes.Goals as goal

pub returns : goal.returns
returns c =
    record { answer = text_read c.args.text.now c.in_ok-from_slice.field-0.items (c.in_ok-from_slice.ensures.items ∙ c.as_bytes.ensures.value) c.utf8.text }
