use Rattle.std.proofs.Common.{length}
use Rattle.zarrs_array_regions.proofs.encoded.+encoded_runs.Given as goal

abbrev pub decreases-encoded_runs : goal.decreases-encoded_runs
decreases-encoded_runs l = length l.codecs.now
