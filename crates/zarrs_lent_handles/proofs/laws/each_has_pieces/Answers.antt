use Rattle.zarrs_lent_handles.proofs.ElsewhereLemmas.{each_has_pieces}
use Rattle.zarrs_lent_handles.proofs.laws.each_has_pieces.Goals as goal

pub returns : goal.returns
returns c = record { law = each_has_pieces }
