use Rattle.std.proofs.Common.{◌≡◌, ◌*◌, take}
use Rattle.zarrs_packbits.specs.Bits.{bits_of}
use Rattle.zarrs_packbits.specs.BitStream.{components_from}
use Rattle.zarrs_packbits.proofs.spread.put_blocks.Given as goal

abbrev pub invariant-loop-block : goal.invariant-loop-block
invariant-loop-block l = bits_of (take (l.room * l.block) l.out) ≡ components_from l.layout 0 (l.room * l.block) (bits_of l.bytes)
