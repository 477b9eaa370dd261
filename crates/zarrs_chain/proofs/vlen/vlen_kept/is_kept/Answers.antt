use Rattle.std.proofs.Common.{length}
use Rattle.zarrs_chain_meaning.specs.vlen.VlenSettings.{is_wide}
use Rattle.zarrs_chain.proofs.VlenKept.{packed_takes}
use Rattle.zarrs_chain.proofs.vlen.vlen_kept.is_kept.Goals as goal

pub packs_offsets-requires-clause-taken : goal.packs_offsets-requires-clause-taken
packs_offsets-requires-clause-taken g c =
    packed_takes c.args.codec.now c.in-PackBits.codec (is_wide c.args.data_type) (length c.args.offsets.now) c.in-PackBits.is c.requires.taken
