use Rattle.zarrs_metadata.specs.MetadataV3.{metadata_seen}
use Rattle.zarrs_chain_meaning.proofs.MetadataDepth.{sharding_inner_within, sharding_index_within}
use Rattle.zarrs_chain_meaning.proofs.sharding.configuration.sharding_configuration.Goals as goal

pub returns-clause-inner_depth : goal.returns-clause-inner_depth
returns-clause-inner_depth c = sharding_inner_within c.read_sharding_configuration.result (metadata_seen c.args.metadata.now) c.read_sharding_configuration.ensures.answer

pub returns-clause-index_depth : goal.returns-clause-index_depth
returns-clause-index_depth c = sharding_index_within c.read_sharding_configuration.result (metadata_seen c.args.metadata.now) c.read_sharding_configuration.ensures.answer
