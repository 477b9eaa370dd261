use Rattle.zarrs_crc32c.proofs.Sums.{bytes_linear}
use Rattle.zarrs_crc32c.proofs.laws.registers_are_linear.Goals as goal

pub returns : goal.returns
returns c = record { law = λ first second xs ys e. bytes_linear first second xs ys e }
