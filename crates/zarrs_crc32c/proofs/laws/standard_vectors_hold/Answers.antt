use Rattle.std.proofs.Common.{refl}
use Rattle.zarrs_crc32c.specs.Checksum.{crc32c, after_bits}
use Rattle.zarrs_crc32c.proofs.laws.standard_vectors_hold.Goals as goal

pub returns : goal.returns
unfolding crc32c after_bits
returns c = record { law = refl }
