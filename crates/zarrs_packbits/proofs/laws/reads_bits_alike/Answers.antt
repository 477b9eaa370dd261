use Rattle.zarrs_packbits.proofs.laws.reads_bits_alike.Goals as goal
use Rattle.zarrs_packbits.proofs.LocalBits.{reads_bits_alike}

pub returns : goal.returns
returns c = record { law = reads_bits_alike }
