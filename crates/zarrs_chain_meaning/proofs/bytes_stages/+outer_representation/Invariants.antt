use Rattle.std.proofs.Common.{length}
use Rattle.zarrs_chain_meaning.proofs.bytes_stages.+outer_representation.Given as goal

abbrev pub decreases-outer_representation : goal.decreases-outer_representation
decreases-outer_representation g l = length l.codecs.now
