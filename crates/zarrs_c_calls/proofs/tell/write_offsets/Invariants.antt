use Rattle.std.proofs.Common.{◌≡◌, ◌++◌, take, drop}
use Rattle.zarrs_c_calls.proofs.tell.write_offsets.Given as goal

-- the offsets so far stand in front of what there was
abbrev pub invariant-loop-place : goal.invariant-loop-place
invariant-loop-place l = l.out ≡ take l.place l.starts ++ drop l.place l.initial.out
