use Rattle.std.proofs.Common.{◌≡◌, ◌*◌, take, length}
use Rattle.std.specs.List.{flat_map}
use Rattle.zarrs_packbits.specs.BlockBits.{fields_of}
use Rattle.zarrs_packbits.proofs.blocks.spread_halves.Given as goal

abbrev pub invariant-loop-place : goal.invariant-loop-place
invariant-loop-place l = record {
  made : take (2 * l.place) l.to ≡ flat_map (fields_of 4 2) (take l.place l.from);
  long : length l.to ≡ 128;
}
