use Rattle.zarrs_codecs.proofs.FewerExcused.{fewer_excused}
use Rattle.zarrs_codecs.proofs.laws.fewer_are_excused.Goals as goal

pub returns : goal.returns
returns c = record { law = fewer_excused }
