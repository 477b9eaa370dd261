use Rattle.zarrs_fill_values.proofs.FillLaws.{shown_is_read}
use Rattle.zarrs_fill_values.proofs.laws.fill_values_are_read_again.Goals as goal

pub returns : goal.returns
returns c = record { law = shown_is_read }
