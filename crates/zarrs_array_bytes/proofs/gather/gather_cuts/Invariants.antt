use Rattle.std.proofs.Common.{◌≡◌, ◌∷◌, map, take}
use Rattle.std.specs.List.{flat_map}
use Rattle.zarrs_chunk.specs.Runs.{joined_runs}
use Rattle.zarrs_array_bytes.specs.Elements.{cut}
use Rattle.zarrs_array_bytes.specs.Pieces.{ends}
use Rattle.zarrs_array_bytes.proofs.gather.gather_cuts.Given as goal

abbrev pub invariant-loop-run : goal.invariant-loop-run
invariant-loop-run l = record {
  bytes_so_far : l.out.items ≡ flat_map (cut l.offsets l.bytes) (joined_runs (take l.run-index l.runs));
  ends_so_far : l.ends.items ≡ 0 ∷ ends 0 (map (cut l.offsets l.bytes) (joined_runs (take l.run-index l.runs)));
}
