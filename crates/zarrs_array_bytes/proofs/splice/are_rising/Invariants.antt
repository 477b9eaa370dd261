use Rattle.std.proofs.Common.{◌≡◌, ◌&&◌, drop}
use Rattle.zarrs_array_bytes.specs.Update.{is_rising}
use Rattle.zarrs_array_bytes.proofs.splice.are_rising.Given as goal

abbrev pub invariant-loop-run : goal.invariant-loop-run
invariant-loop-run l = l.rising && is_rising l.at (drop l.run-index l.runs) ≡ is_rising 0 l.runs
