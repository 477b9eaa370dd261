use Rattle.zarrs_metadata.specs.MetadataV3.{metadata_seen}
use Rattle.zarrs_chain_meaning.proofs.MetadataDepth.{optional_mask_within, optional_data_within}
use Rattle.zarrs_chain_meaning.proofs.optional.configuration.optional_configuration.Goals as goal

pub returns-clause-mask_depth : goal.returns-clause-mask_depth
returns-clause-mask_depth c = optional_mask_within c.read_optional_configuration.result (metadata_seen c.args.metadata.now) c.read_optional_configuration.ensures.answer

pub returns-clause-content_depth : goal.returns-clause-content_depth
returns-clause-content_depth c = optional_data_within c.read_optional_configuration.result (metadata_seen c.args.metadata.now) c.read_optional_configuration.ensures.answer
