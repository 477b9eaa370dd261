use Rattle.std.proofs.Common.{◌≡◌, ◌+◌, drop, length}
use Rattle.zarrs_chunk.specs.Runs.{joined_runs}
use Rattle.zarrs_array_bytes.specs.Update.{update}
use Rattle.zarrs_grid.proofs.scatter.write_runs.Given as goal

abbrev pub invariant-loop-run : goal.invariant-loop-run
invariant-loop-run g l = record {
  left : l.done + length (joined_runs (drop l.run-index l.runs)) ≡ length l.new;
  told : update l.whole (joined_runs (drop l.run-index l.runs)) (drop l.done l.new) ≡ update l.initial.whole (joined_runs l.runs) l.new;
}
