use Rattle.zarrs_packbits.proofs.CodecLaws.{has_represented_length}
use Rattle.zarrs_packbits.proofs.laws.has_represented_length.Goals as goal

pub returns : goal.returns
returns c = record { law = has_represented_length }
