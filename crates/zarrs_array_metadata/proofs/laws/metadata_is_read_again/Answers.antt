use Rattle.zarrs_array_metadata.proofs.WrittenAgain.{written_is_read}
use Rattle.zarrs_array_metadata.proofs.laws.metadata_is_read_again.Goals as goal

pub returns : goal.returns
returns c = record { law = written_is_read }
