use Rattle.std.proofs.Common.{◌≡◌, take, map, length}
use Rattle.zarrs_packbits.specs.BlockBits.{lifted_byte}
use Rattle.zarrs_packbits.proofs.blocks.lift.Given as goal

abbrev pub invariant-loop-place : goal.invariant-loop-place
invariant-loop-place g l = record {
  made : take l.place l.to ≡ map (lifted_byte l.first l.weight) (take l.place l.kept);
  long : length l.to ≡ g.row.N;
}
