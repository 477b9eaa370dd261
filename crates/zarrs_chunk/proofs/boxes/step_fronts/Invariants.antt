use Rattle.std.proofs.Common.{◌≡◌, ◌+◌, ◌*◌, take, drop, length}
use Rattle.std.specs.List.{flat_map, range_with_len}
use Rattle.zarrs_chunk.proofs.boxes.step_fronts.Given as goal

abbrev pub invariant-loop-index : goal.invariant-loop-index
invariant-loop-index l = record {
  stepped : take l.index l.fronts ≡ flat_map (λ front. range_with_len (front * l.size + l.start) 1) (take l.index l.fn.fronts);
  left : drop l.index l.fronts ≡ drop l.index l.fn.fronts;
  count : length l.fronts ≡ length l.fn.fronts;
}
