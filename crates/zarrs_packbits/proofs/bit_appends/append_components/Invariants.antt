use Rattle.std.proofs.Common.{◌≡◌, ◌++◌}
use Rattle.zarrs_packbits.proofs.bit_appends.append_components.Given as goal
use Rattle.zarrs_packbits.specs.Bits.{bits_of}
use Rattle.zarrs_packbits.specs.BitStream.{components_from}
use Rattle.zarrs_packbits.specs.WrittenBits.{written_bits, IsPartlyFilled}

abbrev pub invariant-loop-part : goal.invariant-loop-part
invariant-loop-part l = record {
  bits : written_bits l.out.items l.last l.used ≡ written_bits l.initial.out.items l.word l.filled ++ components_from l.layout l.at l.part (bits_of l.bytes);
  reached : IsPartlyFilled l.last l.used;
}
