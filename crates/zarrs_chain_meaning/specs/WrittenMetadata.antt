-- The metadata that is written of codecs and of chains.
-- Source: the Zarr v3 core specification, `codecs`; codec.zarrs.dev.
use Rattle.std.specs.Prelude.{ℕ, List, map}
use Rattle.zarrs_metadata.specs.CodecMetadata.{codec_metadata}
use Rattle.zarrs_metadata.specs.Data.{Members}
use Rattle.zarrs_metadata.specs.Metadata.{Metadata}
use Rattle.zarrs_metadata.specs.ShardingConfiguration.{write_sharding}
use Rattle.zarrs_metadata.specs.declared.codec.sharding.ShardingIndexLocation.{ShardingIndexLocation}
use Rattle.zarrs_metadata.specs.MetadataV3.{metadata_seen}
use Rattle.zarrs_metadata.specs.declared.metadata_v3.MetadataV3.{MetadataV3}
use Rattle.zarrs_chain_meaning.specs.MetadataFacts.{listed}
use Rattle.zarrs_chain_meaning.specs.CodecMeaning.{PlainCodec, PlainChain, metadata_facts}

-- the name that is written of an array-to-bytes codec
abbrev pub codec_name : {B : Type 0} → PlainCodec B → List ℕ
codec_name codec = (metadata_facts codec).name

-- the configuration that is written of an array-to-bytes codec; of `vlen` with the place of the index
abbrev pub codec_configuration : {B : Type 0} → (B → Metadata) → PlainCodec B → Members
codec_configuration described codec = (metadata_facts codec).configuration described

-- the metadata of an array-to-bytes codec
abbrev pub to_bytes_metadata : {B : Type 0} → (B → Metadata) → PlainCodec B → Metadata
to_bytes_metadata described codec = codec_metadata (codec_name codec) (codec_configuration described codec)

-- the metadata of a chain: one for each codec
abbrev pub chain_metadatas : {B : Type 0} → (B → Metadata) → PlainChain B → List Metadata
chain_metadatas described chain = listed described chain.array_to_array (to_bytes_metadata described chain.array_to_bytes) chain.bytes_to_bytes

-- the configuration that is written of `sharding_indexed`, by its four keys
abbrev pub sharding_members_of : List ℕ → List MetadataV3 → List MetadataV3 → ShardingIndexLocation → Members
sharding_members_of shape inner index location = write_sharding (record {
  chunk_shape = shape;
  codecs = map metadata_seen inner;
  index_codecs = map metadata_seen index;
  index_location = location;
})
