use Rattle.std.proofs.Common.{length}
use Rattle.zarrs_chain_meaning.proofs.array_stages.+shape_through.Given as goal

abbrev pub decreases-shape_through : goal.decreases-shape_through
decreases-shape_through l = length l.codecs.now
