-- What calls make of metadata and configurations, by a maker of bytes-to-bytes codecs, and which metadata they write.
use Rattle.std.specs.Prelude.{List, Option, Result, Ok, Vec}
use Rattle.std.specs.declared.alloc.Global.{Global}
use Rattle.zarrs_metadata.specs.Metadata.{Metadata}
use Rattle.zarrs_metadata.specs.MetadataV3.{metadata_seen, metadatas_seen, metadatas_in}
use Rattle.zarrs_metadata.specs.OptionalConfiguration.{optional_seen}
use Rattle.zarrs_metadata.specs.PluginCreateError.{Makes}
use Rattle.zarrs_metadata.specs.ShardingConfiguration.{sharding_seen}
use Rattle.zarrs_metadata.specs.VlenConfiguration.{vlen_seen}
use Rattle.zarrs_metadata.specs.declared.configuration.optional.OptionalCodecConfiguration.{OptionalCodecConfiguration}
use Rattle.zarrs_metadata.specs.declared.configuration.sharding.ShardingCodecConfiguration.{ShardingCodecConfiguration}
use Rattle.zarrs_metadata.specs.declared.configuration.vlen.VlenCodecConfiguration.{VlenCodecConfiguration}
use Rattle.zarrs_metadata.specs.declared.metadata_v3.MetadataV3.{MetadataV3}
use Rattle.zarrs_metadata.specs.declared.plugin_create_error.PluginCreateError.{PluginCreateError}
use Rattle.zarrs_chain_meaning.specs.MadeChain.{chain_made, optional_by, optional_made_by, sharding_made_by, sharding_of_parts, vlen_made_by, vlen_of_parts}
use Rattle.zarrs_chain.specs.ChainView.{plain_chain, plain_optional, plain_sharding, plain_vlen}
use Rattle.zarrs_chain.specs.declared.codec_chain.CodecChain.{CodecChain}
use Rattle.zarrs_chain.specs.declared.optional.optional_codec.OptionalCodec.{OptionalCodec}
use Rattle.zarrs_chain.specs.declared.sharding.sharding_codec.ShardingCodec.{ShardingCodec}
use Rattle.zarrs_chain.specs.declared.vlen.vlen_codec.VlenCodec.{VlenCodec}

-- ---- what is made

-- the chain of a list of metadata is made, or the first error is returned
abbrev pub MakesChainOf : {B : Type 0} → (Metadata → Result (Option B) PluginCreateError) → List MetadataV3 → Result (CodecChain B) PluginCreateError → Type 0
MakesChainOf makes metadatas result = Makes plain_chain result (chain_made makes (metadatas_seen metadatas))

-- the `vlen` of a configuration is made, or the first error is returned
abbrev pub MakesVlen : {B : Type 0} → (Metadata → Result (Option B) PluginCreateError) → VlenCodecConfiguration → Result (VlenCodec B) PluginCreateError → Type 0
MakesVlen makes configuration result =
    Makes plain_vlen result (vlen_of_parts (chain_made makes) (vlen_seen configuration))

-- the `vlen` of a metadata is made, or the first error is returned
abbrev pub CreatesVlen : {B : Type 0} → (Metadata → Result (Option B) PluginCreateError) → MetadataV3 → Result (VlenCodec B) PluginCreateError → Type 0
CreatesVlen makes metadata result = Makes plain_vlen result (vlen_made_by (chain_made makes) (metadata_seen metadata))

-- the `optional` of a configuration is made, or the first error is returned
abbrev pub MakesOptional : {B : Type 0} → (Metadata → Result (Option B) PluginCreateError) → OptionalCodecConfiguration → Result (OptionalCodec B) PluginCreateError → Type 0
MakesOptional makes configuration result = Makes plain_optional result (optional_by makes (optional_seen configuration))

-- the `optional` of a metadata is made, or the first error is returned
abbrev pub CreatesOptional : {B : Type 0} → (Metadata → Result (Option B) PluginCreateError) → MetadataV3 → Result (OptionalCodec B) PluginCreateError → Type 0
CreatesOptional makes metadata result =
    Makes plain_optional result (optional_made_by (chain_made makes) (metadata_seen metadata))

-- the `sharding_indexed` of a configuration is made, or the first error is returned
abbrev pub MakesSharding : {B : Type 0} → (Metadata → Result (Option B) PluginCreateError) → ShardingCodecConfiguration → Result (ShardingCodec B) PluginCreateError → Type 0
MakesSharding makes configuration result =
    Makes plain_sharding result (sharding_of_parts (chain_made makes) (sharding_seen configuration))

-- the `sharding_indexed` of a metadata is made, or the first error is returned
abbrev pub CreatesSharding : {B : Type 0} → (Metadata → Result (Option B) PluginCreateError) → MetadataV3 → Result (ShardingCodec B) PluginCreateError → Type 0
CreatesSharding makes metadata result =
    Makes plain_sharding result (sharding_made_by (chain_made makes) (metadata_seen metadata))

-- ---- what is written

-- the list of metadata that is written is this one
abbrev pub WritesList : Result (Vec MetadataV3 Global) PluginCreateError → List Metadata → Type 0
WritesList result metadatas = Makes metadatas_in result (Ok metadatas)
