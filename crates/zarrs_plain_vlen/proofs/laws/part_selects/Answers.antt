use Rattle.zarrs_plain_vlen.proofs.Selected.{part_selects}
use Rattle.zarrs_plain_vlen.proofs.laws.part_selects.Goals as goal

pub returns : goal.returns
returns g c = record { law = λ f. part_selects f }
