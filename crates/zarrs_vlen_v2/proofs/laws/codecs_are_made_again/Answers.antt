use Rattle.zarrs_vlen_v2.proofs.MadeAgain.{codecs_made_again}
use Rattle.zarrs_vlen_v2.proofs.laws.codecs_are_made_again.Goals as goal

pub returns : goal.returns
returns c = record { law = codecs_made_again }
