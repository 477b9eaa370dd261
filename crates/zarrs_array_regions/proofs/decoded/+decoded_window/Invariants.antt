use Rattle.std.proofs.Common.{length}
use Rattle.zarrs_array_regions.proofs.decoded.+decoded_window.Given as goal

abbrev pub decreases-decoded_window : goal.decreases-decoded_window
decreases-decoded_window l = length l.codecs.now
