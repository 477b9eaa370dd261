use Rattle.std.proofs.Common.{◌≡◌, ◌++◌, drop}
use Rattle.zarrs_uses.specs.ByteDelta.{deltas}
use Rattle.zarrs_uses.proofs.own_codec.take_deltas.Given as goal

-- the deltas that are there, and those of the bytes that are left, are all deltas
abbrev pub invariant-loop-byte : goal.invariant-loop-byte
invariant-loop-byte l = deltas 0 l.bytes ≡ l.encoded.items ++ deltas l.previous (drop l.byte-index l.bytes)
