use Rattle.zarrs_lent_handles.proofs.ElsewhereLemmas.{values_have_pieces}
use Rattle.zarrs_lent_handles.proofs.laws.values_have_pieces.Goals as goal

pub returns : goal.returns
returns c = record { law = values_have_pieces }
