use Rattle.zarrs_array_plan.proofs.ChunksRead.{parts_read}
use Rattle.zarrs_array_plan.proofs.laws.parts_are_read.Goals as goal

pub returns : goal.returns
returns c = record { law = parts_read }
