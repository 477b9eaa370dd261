use Rattle.zarrs_codecs.proofs.BoxRows.{cut_rows}
use Rattle.zarrs_codecs.proofs.laws.boxes_are_cut.Goals as goal

pub returns : goal.returns
returns c = record { law = cut_rows }
