use Rattle.std.proofs.Common.{◌≡◌, ◌+◌, ◌*◌, ◌++◌, take, drop, length}
use Rattle.zarrs_chunk.specs.Runs.{joined_runs}
use Rattle.zarrs_packbits.specs.Bits.{bits_of}
use Rattle.zarrs_packbits.specs.ReadPlan.{run_bits, runs_len}
use Rattle.zarrs_packbits.proofs.spread.put_each.Given as goal

abbrev pub invariant-loop-start : goal.invariant-loop-start
invariant-loop-start l = record {
  sums : length l.bytes ≡ l.at + runs_len l.layout (drop l.start-index l.runs);
  room : length l.initial.out ≡ l.done + length (joined_runs (drop l.start-index l.runs)) * l.layout.group;
  bits : run_bits l.layout l.bytes l.runs ≡ bits_of (take l.done l.out) ++ run_bits l.layout (drop l.at l.bytes) (drop l.start-index l.runs);
}
