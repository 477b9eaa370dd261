use Rattle.std.proofs.Common.{◌≡◌, ◌*◌, drop}
use Rattle.zarrs_crc32c.specs.Quotient.{after_division}
use Rattle.zarrs_crc32c.proofs.quotient.divide.Given as goal

-- the bytes that are left are divided from here on
abbrev pub invariant-loop-index : goal.invariant-loop-index
invariant-loop-index l = after_division l.quotient (l.index * 16) (drop (l.index * 16) l.bytes) ≡ after_division l.initial.quotient 0 l.bytes
