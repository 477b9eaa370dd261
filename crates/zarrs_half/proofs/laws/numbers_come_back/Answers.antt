use Rattle.zarrs_half.proofs.NumbersAgain.{number_again}
use Rattle.zarrs_half.proofs.laws.numbers_come_back.Goals as goal

pub returns : goal.returns
returns c = record { law = number_again }
