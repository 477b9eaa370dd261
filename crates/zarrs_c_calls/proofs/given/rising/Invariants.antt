use Rattle.std.proofs.Common.{◌≡◌, take}
use Rattle.zarrs_c_calls.proofs.given.rising.Given as goal

-- the offsets so far
abbrev pub invariant-loop-offset : goal.invariant-loop-offset
invariant-loop-offset l = l.starts.items ≡ take l.offset-index l.offsets
