use Rattle.std.proofs.Common.{length}
use Rattle.zarrs_chain_meaning.proofs.bytes_stages.+encode_bytes.Given as goal

abbrev pub decreases-encode_bytes : goal.decreases-encode_bytes
decreases-encode_bytes g l = length l.codecs.now
