use Rattle.zarrs_codecs.proofs.OpenedValues.{standing_opened}
use Rattle.zarrs_codecs.proofs.laws.standing_is_opened.Goals as goal

pub returns : goal.returns
returns g c = record { law = λ f. standing_opened f }
