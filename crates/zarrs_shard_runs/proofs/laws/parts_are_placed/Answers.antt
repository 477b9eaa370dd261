use Rattle.zarrs_shard_runs.proofs.BoxParts.{parts_placed}
use Rattle.zarrs_shard_runs.proofs.laws.parts_are_placed.Goals as goal

pub returns : goal.returns
returns c = record { law = parts_placed }
