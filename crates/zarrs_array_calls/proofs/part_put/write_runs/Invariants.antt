use Rattle.std.proofs.Common.{◌≡◌, ◌+◌, ◌*◌, ◌≤◌, drop, length}
use Rattle.zarrs_chunk.specs.Runs.{joined_runs}
use Rattle.zarrs_array_bytes.specs.Update.{with_runs}
use Rattle.zarrs_array_calls.proofs.part_put.write_runs.Given as goal

abbrev pub invariant-loop-run : goal.invariant-loop-run
invariant-loop-run l = record {
  left : l.done + length (joined_runs (drop l.run-index l.runs)) * l.size ≤ length l.elements;
  told : with_runs l.size l.region (drop l.run-index l.runs) (drop l.done l.elements) ≡ with_runs l.size l.fn.region l.runs l.elements;
}
