use Rattle.zarrs_array_metadata.proofs.ReadWritten.{read_is_written}
use Rattle.zarrs_array_metadata.proofs.laws.read_metadata_is_written.Goals as goal

pub returns : goal.returns
returns c = record { law = read_is_written }
