use Rattle.std.proofs.Common.{◌≡◌, ◌+◌, ◌*◌, ◌++◌, take, drop, length}
use Rattle.zarrs_array_bytes.specs.Pieces.{pieces_at}
use Rattle.zarrs_chunk.specs.Runs.{joined_runs}
use Rattle.zarrs_array_calls.proofs.part_take.copy_runs.Given as goal

-- the elements of the runs so far stand in front of what there was
abbrev pub invariant-loop-run : goal.invariant-loop-run
invariant-loop-run l = record {
  left : l.done + length (joined_runs (drop l.run-index l.runs)) * l.size ≡ length l.fn.elements;
  long : length (pieces_at l.size l.region (joined_runs (take l.run-index l.runs))) ≡ l.done;
  told : l.elements ≡ pieces_at l.size l.region (joined_runs (take l.run-index l.runs)) ++ drop l.done l.fn.elements;
}
