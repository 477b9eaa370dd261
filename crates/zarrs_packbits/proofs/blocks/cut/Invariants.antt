use Rattle.std.proofs.Common.{◌≡◌, take, map, length}
use Rattle.zarrs_packbits.proofs.BlockLemmas.{cut_byte}
use Rattle.zarrs_packbits.proofs.blocks.cut.Given as goal

abbrev pub invariant-loop-place : goal.invariant-loop-place
invariant-loop-place l = record {
  made : take l.place l.to ≡ map (cut_byte l.first l.count) (take l.place l.from);
  long : length l.to ≡ 64;
}
