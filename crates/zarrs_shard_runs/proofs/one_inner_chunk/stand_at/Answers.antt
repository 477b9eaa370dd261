use Rattle.zarrs_shard_runs.proofs.Stands.{stands_at}
use Rattle.zarrs_shard_runs.proofs.one_inner_chunk.stand_at.Goals as goal

pub returns : goal.returns
returns c =
    let found = c.cell_of-number.result in
    record { stand = stands_at c.args.parts.now c.args.sizes.now c.args.blocks c.args.place found.0 found.1 c.requires.blocks c.cell_of-number.ensures.value }
