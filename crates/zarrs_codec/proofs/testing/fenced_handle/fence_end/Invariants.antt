use Rattle.std.proofs.Common.{◌≡◌, drop}
use Rattle.zarrs_codec.specs.FencedHandle.{is_fenced}
use Rattle.zarrs_codec.proofs.testing.fenced_handle.fence_end.Given as goal

abbrev pub invariant-loop-range : goal.invariant-loop-range
invariant-loop-range l = is_fenced l.ranges l.byte ≡ is_fenced (drop l.range-index l.ranges) l.byte
