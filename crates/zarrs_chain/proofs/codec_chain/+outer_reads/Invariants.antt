use Rattle.std.proofs.Common.{length}
use Rattle.zarrs_chain.proofs.codec_chain.+outer_reads.Given as goal

abbrev pub decreases-outer_reads : goal.decreases-outer_reads
decreases-outer_reads g l = length l.codecs.now
