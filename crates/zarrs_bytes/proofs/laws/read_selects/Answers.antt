use Rattle.zarrs_bytes.proofs.CodecLaws.{read_selects}
use Rattle.zarrs_bytes.proofs.laws.read_selects.Goals as goal

pub returns : goal.returns
returns c = record { law = read_selects }
