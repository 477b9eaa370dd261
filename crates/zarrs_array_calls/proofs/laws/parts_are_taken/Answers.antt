use Rattle.zarrs_array_calls.proofs.PartLaws.{parts_taken}
use Rattle.zarrs_array_calls.proofs.laws.parts_are_taken.Goals as goal

pub returns : goal.returns
returns c = record { law = parts_taken }
