use Rattle.zarrs_shard_runs.proofs.BoxParts.{parts_put}
use Rattle.zarrs_shard_runs.proofs.laws.parts_are_put.Goals as goal

pub returns : goal.returns
returns g c = record { law = parts_put }
