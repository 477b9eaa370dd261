use Rattle.zarrs_array_to_array.proofs.ArrayLaws.{mappings_made_again}
use Rattle.zarrs_array_to_array.proofs.laws.codecs_are_made_again.Goals as goal

pub returns : goal.returns
returns c = record { law = mappings_made_again }
