use Rattle.zarrs_fill_values.proofs.FillLaws.{read_is_shown}
use Rattle.zarrs_fill_values.proofs.laws.fill_values_are_shown.Goals as goal

pub returns : goal.returns
returns c = record { law = read_is_shown }
