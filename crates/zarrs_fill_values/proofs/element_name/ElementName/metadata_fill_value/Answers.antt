use Rattle.zarrs_fill_values.proofs.ShownAgain.{shown_again}
use Rattle.zarrs_fill_values.proofs.element_name.ElementName.metadata_fill_value.Goals as goal

pub returns-clause-read_again : goal.returns-clause-read_again
returns-clause-read_again c =
    shown_again c.args.self c.as_ne_bytes-bytes.result.now c.args.fill.now c.optional_shown.result c.as_ne_bytes-bytes.ensures.value c.are_bytes.ensures.bytes c.optional_shown.ensures.answer
