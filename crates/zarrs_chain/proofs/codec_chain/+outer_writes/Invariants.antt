use Rattle.std.proofs.Common.{length}
use Rattle.zarrs_chain.proofs.codec_chain.+outer_writes.Given as goal

abbrev pub decreases-outer_writes : goal.decreases-outer_writes
decreases-outer_writes g l = length l.codecs.now
