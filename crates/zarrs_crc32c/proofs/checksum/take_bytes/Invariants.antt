use Rattle.std.proofs.Common.{◌≡◌, length}
use Rattle.zarrs_crc32c.specs.Checksum.{after_bytes}
use Rattle.zarrs_crc32c.proofs.checksum.take_bytes.Given as goal

-- the bytes that are left are taken in from here on
abbrev pub invariant-loop-eight : goal.invariant-loop-eight
invariant-loop-eight l = after_bytes l.current l.rest ≡ after_bytes l.register l.bytes

abbrev pub decreases-loop-eight : goal.decreases-loop-eight
decreases-loop-eight l = length l.rest
