use Rattle.std.proofs.Common.{◌≡◌, ◌∷◌, map, take, length}
use Rattle.std.specs.List.{flat_map}
use Rattle.zarrs_chunk.specs.Runs.{joined_runs}
use Rattle.zarrs_array_bytes.specs.Pieces.{ends}
use Rattle.zarrs_plain_vlen.specs.Elements.{element_zeros}
use Rattle.zarrs_plain_vlen.proofs.elements.ends_of_runs.Given as goal

abbrev pub invariant-loop-first : goal.invariant-loop-first
invariant-loop-first l = record {
  ends_so_far : l.ends.items ≡ 0 ∷ ends 0 (map (element_zeros l.offsets) (joined_runs (take l.first-index l.runs)));
  start_so_far : l.start ≡ length (flat_map (element_zeros l.offsets) (joined_runs (take l.first-index l.runs)));
}
