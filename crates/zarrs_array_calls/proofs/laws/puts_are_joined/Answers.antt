use Rattle.zarrs_array_calls.proofs.PartLaws.{puts_joined}
use Rattle.zarrs_array_calls.proofs.laws.puts_are_joined.Goals as goal

pub returns : goal.returns
returns c = record { law = puts_joined }
