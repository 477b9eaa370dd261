use Rattle.std.proofs.Common.{length, ◌-◌}
use Rattle.zarrs_array_bytes.proofs.array_bytes_decode_into_target.+write_levels.Given as goal

abbrev pub decreases-write_levels : goal.decreases-write_levels
decreases-write_levels l = length l.masks.now - l.level
