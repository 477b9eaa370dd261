use Rattle.std.proofs.Common.{◌≡◌, take, get_or}
use Rattle.std.specs.List.{range_with_len}
use Rattle.zarrs_chunk.proofs.runs.run_length.Given as goal

abbrev pub invariant-loop-index : goal.invariant-loop-index
invariant-loop-index l = take l.index l.places ≡ range_with_len (get_or l.places 0 0) l.index
