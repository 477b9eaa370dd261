use Rattle.std.proofs.Common.{refl}
use Rattle.zarrs_shard_bytes.proofs.Bands.{same_kept}
use Rattle.zarrs_chain.proofs.sharding.shard_bands.with_room.Goals as goal

pub returns-then-done-gt0-clause-kept : goal.returns-then-done-gt0-clause-kept
returns-then-done-gt0-clause-kept c = record { is = same_kept c.args.data_type.now c.args.done c.args.elements c.requires.valid; no_fault = refl }
