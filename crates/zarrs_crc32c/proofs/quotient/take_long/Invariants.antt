use Rattle.std.proofs.Common.{◌≡◌, ◌≤◌, length}
use Rattle.zarrs_crc32c.specs.Checksum.{after_bytes, all_ones}
use Rattle.zarrs_crc32c.specs.Quotient.{after_division}
use Rattle.zarrs_crc32c.proofs.quotient.take_long.Given as goal

-- the bytes that are left are divided from here on
abbrev pub invariant-loop-rest : goal.invariant-loop-rest
invariant-loop-rest l = record {
  long : 432 ≤ length l.rest;
  same : after_division l.quotient 0 l.rest ≡ after_bytes all_ones l.bytes;
}

abbrev pub decreases-loop-rest : goal.decreases-loop-rest
decreases-loop-rest l = length l.rest
