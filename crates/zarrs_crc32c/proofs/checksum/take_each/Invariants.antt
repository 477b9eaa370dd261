use Rattle.std.proofs.Common.{◌≡◌, drop}
use Rattle.zarrs_crc32c.specs.Checksum.{after_bytes}
use Rattle.zarrs_crc32c.proofs.checksum.take_each.Given as goal

-- the bytes that are left are taken in from here on
abbrev pub invariant-loop-byte : goal.invariant-loop-byte
invariant-loop-byte l = after_bytes l.current (drop l.byte-index l.bytes) ≡ after_bytes l.register l.bytes
