use Rattle.std.proofs.Common.{◌≡◌, take}
use Rattle.zarrs_chunk.specs.Runs.{joined_runs}
use Rattle.zarrs_array_bytes.proofs.runs.places_of_runs.Given as goal

abbrev pub invariant-loop-run : goal.invariant-loop-run
invariant-loop-run l = l.places.items ≡ joined_runs (take l.run-index l.runs)
