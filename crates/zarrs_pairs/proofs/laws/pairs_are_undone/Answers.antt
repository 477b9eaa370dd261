use Rattle.zarrs_pairs.specs.Lawful.{is_undone}
use Rattle.zarrs_pairs.proofs.laws.pairs_are_undone.Goals as goal

pub returns : goal.returns
returns c = record { law = is_undone }
