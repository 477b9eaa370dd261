use Rattle.zarrs_fill_values.proofs.FillLaws.{read_fits}
use Rattle.zarrs_fill_values.proofs.laws.fill_values_fit.Goals as goal

pub returns : goal.returns
returns c = record { law = read_fits }
