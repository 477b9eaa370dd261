use Rattle.zarrs_packbits.proofs.AsBytes.{written_as_bytes}
use Rattle.zarrs_packbits.proofs.laws.written_as_bytes.Goals as goal

pub returns : goal.returns
returns c = record { law = written_as_bytes }
