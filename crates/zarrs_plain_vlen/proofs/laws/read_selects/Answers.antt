use Rattle.zarrs_plain_vlen.proofs.Selected.{read_selects}
use Rattle.zarrs_plain_vlen.proofs.laws.read_selects.Goals as goal

pub returns : goal.returns
returns g c = record { law = λ f. read_selects f }
