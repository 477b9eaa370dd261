use Rattle.std.proofs.Common.{◌^◌, arith}
use Rattle.zarrs_array_bytes.proofs.FlushLemmas.{some}
use Rattle.zarrs_chain_meaning.proofs.VlenOffsets.{first_below, all_within}
use Rattle.zarrs_array_bytes.proofs.OffsetLemmas.{rising_last}
use Rattle.zarrs_chain_meaning.proofs.vlen.vlen_offsets.offset_items.Goals as goal

pub wide_items-requires : goal.wide_items-requires
wide_items-requires c = record { above = first_below c.args.offsets.now c.requires.rising }

pub overflow_sub-offsets-in-UInt32 : goal.overflow_sub-offsets-in-UInt32
overflow_sub-offsets-in-UInt32 c = rising_last c.args.offsets.now c.requires.rising 0 (some c.args.offsets.now c.requires.rising)

pub narrow_items-requires-clause-above : goal.narrow_items-requires-clause-above
narrow_items-requires-clause-above c = first_below c.args.offsets.now c.requires.rising

pub narrow_items-requires-clause-fits : goal.narrow_items-requires-clause-fits
narrow_items-requires-clause-fits c = all_within c.args.offsets.now (2 ^ 32) c.requires.rising (omega arith)
