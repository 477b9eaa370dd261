use Rattle.std.proofs.Common.{length}
use Rattle.zarrs_chain_meaning.proofs.arrays_into.+encode_arrays_into.Given as goal

abbrev pub decreases-encode_arrays_into : goal.decreases-encode_arrays_into
decreases-encode_arrays_into l = length l.codecs.now
