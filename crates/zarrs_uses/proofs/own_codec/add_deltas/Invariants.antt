use Rattle.std.proofs.Common.{◌≡◌, ◌++◌, drop}
use Rattle.zarrs_uses.specs.ByteDelta.{sums}
use Rattle.zarrs_uses.proofs.own_codec.add_deltas.Given as goal

-- the bytes that are there, and those of the deltas that are left, are all bytes
abbrev pub invariant-loop-delta : goal.invariant-loop-delta
invariant-loop-delta l = sums 0 l.encoded ≡ l.bytes.items ++ sums l.previous (drop l.delta-index l.encoded)
