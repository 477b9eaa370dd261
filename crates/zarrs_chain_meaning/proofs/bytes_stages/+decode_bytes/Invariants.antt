use Rattle.std.proofs.Common.{length}
use Rattle.zarrs_chain_meaning.proofs.bytes_stages.+decode_bytes.Given as goal

abbrev pub decreases-decode_bytes : goal.decreases-decode_bytes
decreases-decode_bytes g l = length l.codecs.now
