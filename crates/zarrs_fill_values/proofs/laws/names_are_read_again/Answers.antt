use Rattle.zarrs_fill_values.proofs.NameLaws.{name_is_read}
use Rattle.zarrs_fill_values.proofs.laws.names_are_read_again.Goals as goal

pub returns : goal.returns
returns c = record { law = name_is_read }
