use Rattle.zarrs_metadata.proofs.ReadBack.{metadata-reads_back}
use Rattle.zarrs_metadata.proofs.laws.metadata_reads_back.Goals as goal

pub returns : goal.returns
returns c = record { law = metadata-reads_back }
