use Rattle.std.proofs.Common.{length}
use Rattle.zarrs_chain_meaning.proofs.array_stages.+decode_arrays.Given as goal

abbrev pub decreases-decode_arrays : goal.decreases-decode_arrays
decreases-decode_arrays l = length l.codecs.now
