use Rattle.zarrs_codecs.proofs.BoxRows.{same_rows}
use Rattle.zarrs_codecs.proofs.laws.rows_are_alike.Goals as goal

pub returns : goal.returns
returns c = record { law = same_rows }
