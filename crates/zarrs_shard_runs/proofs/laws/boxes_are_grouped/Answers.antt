use Rattle.zarrs_shard_runs.proofs.BoxGroups.{boxes_grouped}
use Rattle.zarrs_shard_runs.proofs.laws.boxes_are_grouped.Goals as goal

pub returns : goal.returns
returns c = record { law = boxes_grouped }
