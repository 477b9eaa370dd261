use Rattle.std.proofs.Common.{◌≡◌, ◌+◌, ◌*◌, ◌≤◌, drop, length}
use Rattle.zarrs_chunk.specs.Runs.{joined_runs}
use Rattle.zarrs_array_bytes.specs.Update.{with_runs}
use Rattle.zarrs_array_bytes.proofs.write.write_runs.Given as goal

abbrev pub invariant-loop-run : goal.invariant-loop-run
invariant-loop-run l = record {
  left : l.done + length (joined_runs (drop l.run-index l.runs)) * l.size ≤ length l.new;
  told : with_runs l.size l.bytes (drop l.run-index l.runs) (drop l.done l.new) ≡ with_runs l.size l.fn.bytes l.runs l.new;
}
