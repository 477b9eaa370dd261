use Rattle.zarrs_packbits.proofs.CodecLaws.{read_selects}
use Rattle.zarrs_packbits.proofs.laws.read_selects.Goals as goal

pub returns : goal.returns
returns c = record { law = read_selects }
