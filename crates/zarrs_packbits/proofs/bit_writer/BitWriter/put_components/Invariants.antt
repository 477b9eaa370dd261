use Rattle.std.proofs.Common.{◌≡◌, ◌++◌}
use Rattle.zarrs_packbits.proofs.bit_writer.BitWriter.put_components.Given as goal
use Rattle.zarrs_packbits.specs.Bits.{bits_of}
use Rattle.zarrs_packbits.specs.BitStream.{components_from}

abbrev pub invariant-loop-part : goal.invariant-loop-part
invariant-loop-part l = l.self ≡ l.initial.self ++ components_from l.layout l.at l.part (bits_of l.bytes)
