use Rattle.std.proofs.Common.{length}
use Rattle.zarrs_array_regions.proofs.last_window.+region_window.Given as goal

abbrev pub decreases-region_window : goal.decreases-region_window
decreases-region_window l = length l.codecs.now
