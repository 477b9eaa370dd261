use Rattle.std.proofs.Common.{◌≡◌, ◌++◌, take, drop}
use Rattle.zarrs_bytes.proofs.ByteRuns.{byte_runs}
use Rattle.zarrs_bytes.proofs.write_runs.scale_runs.Given as goal

abbrev pub invariant-loop-index : goal.invariant-loop-index
invariant-loop-index l = l.runs ≡ byte_runs l.size (take l.index l.fn.runs) ++ drop l.index l.fn.runs
