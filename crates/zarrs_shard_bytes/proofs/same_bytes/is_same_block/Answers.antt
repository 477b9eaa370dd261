use Rattle.zarrs_shard_bytes.proofs.SameBytes.{block_told}
use Rattle.zarrs_shard_bytes.proofs.same_bytes.is_same_block.Goals as goal

pub returns : goal.returns
returns c = record { value = block_told c.args.at c.args.one.now c.args.other.now c.requires.inside c.requires.len }
