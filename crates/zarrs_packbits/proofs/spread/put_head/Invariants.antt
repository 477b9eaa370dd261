use Rattle.std.proofs.Common.{◌≡◌, ◌*◌, take}
use Rattle.zarrs_packbits.specs.Bits.{bits_of}
use Rattle.zarrs_packbits.specs.BitStream.{components_from}
use Rattle.zarrs_packbits.proofs.spread.put_head.Given as goal

abbrev pub invariant-loop-part : goal.invariant-loop-part
invariant-loop-part l = bits_of (take l.part l.out) ≡ components_from l.layout (l.skip * l.count) l.part (bits_of l.bytes)
