use Rattle.std.proofs.Common.{◌≡◌, ◌+◌, ◌*◌, drop}
use Rattle.zarrs_crc32c.specs.Quotient.{after_sums, owed, after_division}
use Rattle.zarrs_crc32c.proofs.quotient.take_last.Given as goal

-- the bytes that are left are taken in from here on
abbrev pub invariant-loop-index : goal.invariant-loop-index
invariant-loop-index l = after_sums l.register (λ place. owed l.last 0 (l.index * 16 + place)) (drop (l.index * 16) l.bytes) ≡ after_division l.quotient 0 l.bytes
