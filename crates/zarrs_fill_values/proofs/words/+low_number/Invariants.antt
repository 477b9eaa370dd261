use Rattle.std.proofs.Common.{length}
use Rattle.zarrs_fill_values.proofs.words.+low_number.Given as goal

-- one byte less
abbrev pub decreases-low_number : goal.decreases-low_number
decreases-low_number l = length l.bytes.now
