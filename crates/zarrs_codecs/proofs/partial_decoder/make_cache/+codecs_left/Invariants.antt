use Rattle.std.proofs.Common.{length}
use Rattle.zarrs_codecs.proofs.partial_decoder.make_cache.+codecs_left.Given as goal

abbrev pub decreases-codecs_left : goal.decreases-codecs_left
decreases-codecs_left g l = length l.codecs.now
