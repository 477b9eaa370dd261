use Rattle.zarrs_pairs.specs.Lawful.{are_looked_up}
use Rattle.zarrs_pairs.proofs.laws.pairs_are_looked_up.Goals as goal

pub returns : goal.returns
returns c = record { law = are_looked_up }
