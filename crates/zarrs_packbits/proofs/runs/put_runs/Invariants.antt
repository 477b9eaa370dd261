use Rattle.std.proofs.Common.{◌≡◌, ◌+◌, ◌++◌, drop, length}
use Rattle.zarrs_packbits.proofs.runs.put_runs.Given as goal
use Rattle.zarrs_packbits.specs.ReadPlan.{run_bits, runs_len}

abbrev pub invariant-loop-start : goal.invariant-loop-start
invariant-loop-start l = record {
  sums : length l.bytes ≡ l.at + runs_len l.layout (drop l.start-index l.runs);
  bits : l.initial.writer ++ run_bits l.layout l.bytes l.runs ≡ l.writer ++ run_bits l.layout (drop l.at l.bytes) (drop l.start-index l.runs);
}
