use Rattle.std.proofs.Common.{◌≡◌, take, length}
use Rattle.zarrs_packbits.specs.Bits.{bits_of}
use Rattle.zarrs_packbits.proofs.blocks.spread_bits.Given as goal

abbrev pub invariant-loop-place : goal.invariant-loop-place
invariant-loop-place l = record {
  made : take l.place l.to ≡ take l.place (bits_of l.from);
  long : length l.to ≡ 64;
}
