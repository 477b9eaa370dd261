use Rattle.std.proofs.Common.{length}
use Rattle.zarrs_array_regions.proofs.runs.+runs_through.Given as goal

abbrev pub decreases-runs_through : goal.decreases-runs_through
decreases-runs_through l = length l.codecs.now
