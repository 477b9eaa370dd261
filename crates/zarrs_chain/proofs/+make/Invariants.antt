use Rattle.std.proofs.Common.{◌+◌, ◌*◌, max, map}
use Rattle.zarrs_metadata.specs.MetadataV3.{metadata_seen}
use Rattle.zarrs_metadata.specs.OptionalConfiguration.{optional_seen}
use Rattle.zarrs_metadata.specs.ShardingConfiguration.{sharding_seen}
use Rattle.zarrs_metadata.specs.VlenConfiguration.{vlen_seen}
use Rattle.zarrs_chain.specs.ChainParts.{parts_seen}
use Rattle.zarrs_chain_meaning.specs.MadeChain.{depth_of, depth_all}
use Rattle.zarrs_chain.proofs.MakeSteps.{GoesOn}
use Rattle.zarrs_chain.proofs.+make.Given as goal

abbrev pub decreases-metadata::make_chain::chain_from : goal.decreases-metadata::make_chain::chain_from
decreases-metadata::make_chain::chain_from g l = 5 * depth_all (map metadata_seen l.metadatas.now) + 3

abbrev pub decreases-metadata::make_chain::join : goal.decreases-metadata::make_chain::join
decreases-metadata::make_chain::join g l = 5 * depth_of (metadata_seen l.metadata.now) + 2

abbrev pub decreases-array_to_bytes_codec::codec_from : goal.decreases-array_to_bytes_codec::codec_from
decreases-array_to_bytes_codec::codec_from g l = 5 * depth_of (metadata_seen l.metadata.now) + 1

abbrev pub decreases-metadata::make_chain::vlen_create : goal.decreases-metadata::make_chain::vlen_create
decreases-metadata::make_chain::vlen_create g l = 5 * depth_of (metadata_seen l.metadata.now)

abbrev pub decreases-metadata::make_chain::optional_create : goal.decreases-metadata::make_chain::optional_create
decreases-metadata::make_chain::optional_create g l = 5 * depth_of (metadata_seen l.metadata.now)

abbrev pub decreases-metadata::make_chain::sharding_create : goal.decreases-metadata::make_chain::sharding_create
decreases-metadata::make_chain::sharding_create g l = 5 * depth_of (metadata_seen l.metadata.now)

abbrev pub decreases-metadata::make_chain::vlen_from : goal.decreases-metadata::make_chain::vlen_from
decreases-metadata::make_chain::vlen_from g l = 5 * max (depth_all (vlen_seen l.configuration.now).index_codecs) (depth_all (vlen_seen l.configuration.now).data_codecs) + 4

abbrev pub decreases-metadata::make_chain::optional_from : goal.decreases-metadata::make_chain::optional_from
decreases-metadata::make_chain::optional_from g l = 5 * max (depth_all (optional_seen l.configuration.now).mask_codecs) (depth_all (optional_seen l.configuration.now).data_codecs) + 4

abbrev pub decreases-metadata::make_chain::sharding_from : goal.decreases-metadata::make_chain::sharding_from
decreases-metadata::make_chain::sharding_from g l = 5 * max (depth_all (sharding_seen l.configuration.now).codecs) (depth_all (sharding_seen l.configuration.now).index_codecs) + 4

abbrev pub invariant-metadata::make_chain::chain_from-loop-metadata : goal.invariant-metadata::make_chain::chain_from-loop-metadata
invariant-metadata::make_chain::chain_from-loop-metadata g l = GoesOn (g.M.BytesCodecMaker.makes l.maker) l.metadatas l.metadata-index (parts_seen l.parts)
