use Rattle.zarrs_array_metadata.proofs.ReadWritten.{kept_as_it_was}
use Rattle.zarrs_array_metadata.proofs.laws.keys_are_kept.Goals as goal

pub returns : goal.returns
returns c = record { law = kept_as_it_was }
