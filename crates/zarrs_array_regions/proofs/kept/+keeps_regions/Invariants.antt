use Rattle.std.proofs.Common.{length}
use Rattle.zarrs_array_regions.proofs.kept.+keeps_regions.Given as goal

abbrev pub decreases-keeps_regions : goal.decreases-keeps_regions
decreases-keeps_regions l = length l.codecs.now
