use Rattle.std.proofs.Common.{◌≡◌, ◌*◌, take, length}
use Rattle.std.specs.List.{flat_map}
use Rattle.zarrs_packbits.specs.Bits.{bits_of, low_bits}
use Rattle.zarrs_packbits.proofs.blocks.join_quarters.Given as goal

abbrev pub invariant-loop-place : goal.invariant-loop-place
invariant-loop-place l = record {
  made : bits_of (take l.place l.to) ≡ flat_map (low_bits 2) (take (4 * l.place) l.from);
  long : length l.to ≡ 16;
}
