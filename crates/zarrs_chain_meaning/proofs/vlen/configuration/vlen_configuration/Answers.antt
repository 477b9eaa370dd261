use Rattle.zarrs_metadata.specs.MetadataV3.{metadata_seen}
use Rattle.zarrs_chain_meaning.proofs.MetadataDepth.{vlen_index_within, vlen_data_within}
use Rattle.zarrs_chain_meaning.proofs.vlen.configuration.vlen_configuration.Goals as goal

pub returns-clause-index_depth : goal.returns-clause-index_depth
returns-clause-index_depth c = vlen_index_within c.read_vlen_configuration.result (metadata_seen c.args.metadata.now) c.read_vlen_configuration.ensures.answer

pub returns-clause-content_depth : goal.returns-clause-content_depth
returns-clause-content_depth c = vlen_data_within c.read_vlen_configuration.result (metadata_seen c.args.metadata.now) c.read_vlen_configuration.ensures.answer
