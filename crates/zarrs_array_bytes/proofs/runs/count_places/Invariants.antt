use Rattle.std.proofs.Common.{◌≡◌, ◌*◌, ◌-◌, ◌^◌, ◌≤◌, length, take}
use Rattle.zarrs_chunk.specs.Runs.{joined_runs}
use Rattle.zarrs_array_bytes.proofs.runs.count_places.Given as goal

abbrev pub invariant-loop-run : goal.invariant-loop-run
invariant-loop-run l = record {
  told : l.count ≡ length (joined_runs (take l.run-index l.runs));
  small : l.count ≤ l.run-index * (2 ^ 64 - 1);
}
