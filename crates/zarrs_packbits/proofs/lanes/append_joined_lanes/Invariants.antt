use Rattle.std.proofs.Common.{◌≡◌, ◌*◌, ◌++◌}
use Rattle.zarrs_packbits.proofs.lanes.append_joined_lanes.Given as goal
use Rattle.zarrs_packbits.specs.BlockBits.{stream_before}
use Rattle.zarrs_packbits.specs.WrittenBits.{written_bits, IsPartlyFilled}

abbrev pub invariant-loop-group : goal.invariant-loop-group
invariant-loop-group l = record {
  bits : written_bits l.out.items l.last l.used ≡ written_bits l.initial.out.items l.word l.filled ++ stream_before l.layout (l.group * l.lanes) l.bytes;
  reached : IsPartlyFilled l.last l.used;
}
