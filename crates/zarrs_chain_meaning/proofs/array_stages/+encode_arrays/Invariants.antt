use Rattle.std.proofs.Common.{length}
use Rattle.zarrs_chain_meaning.proofs.array_stages.+encode_arrays.Given as goal

abbrev pub decreases-encode_arrays : goal.decreases-encode_arrays
decreases-encode_arrays l = length l.codecs.now
