use Rattle.zarrs_array_plan.proofs.PartsWritten.{parts_written}
use Rattle.zarrs_array_plan.proofs.laws.parts_write_the_region.Goals as goal

pub returns : goal.returns
returns c = record { law = parts_written }
