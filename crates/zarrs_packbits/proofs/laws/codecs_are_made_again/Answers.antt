use Rattle.zarrs_packbits.proofs.MadeAgain.{made_again}
use Rattle.zarrs_packbits.proofs.laws.codecs_are_made_again.Goals as goal

pub returns : goal.returns
returns c = record { law = made_again }
