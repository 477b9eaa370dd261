use Rattle.std.proofs.Common.{◌/◌, true, length, arith}
use Rattle.zarrs_chain_meaning.specs.vlen.Vlen.{offset_of}
use Rattle.zarrs_chain_meaning.proofs.VlenOffsets.{numbers_are}
use Rattle.zarrs_chain_meaning.proofs.vlen.vlen_offsets.wide_numbers.Goals as goal

pub returns : goal.returns
returns c =
    record { value = numbers_are (offset_of true) 8 (length c.args.items.now / 8) c.args.items.now c.loop-index.numbers.items c.loop-index.invariant.long (λ k l. c.loop-index.invariant.read k (omega arith)) }
