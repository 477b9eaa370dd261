-- The configuration of codec `optional`.
-- Source: codec.zarrs.dev, `optional`.
use Rattle.std.specs.Prelude.{List, Result, Ok, codes}
use Rattle.serde_json.specs.Data.{Members, no_members, member}
use Rattle.zarrs_chunk.specs.Answer.{◌>>=◌}
use Rattle.zarrs_metadata.specs.Metadata.{Metadata}
use Rattle.zarrs_metadata.specs.MetadataList.{metadata_at, metadata_list_tree}
use Rattle.zarrs_metadata.specs.MetadataV3.{metadatas_in}
use Rattle.zarrs_metadata.specs.Trees.{without_floats}
use Rattle.zarrs_metadata.specs.declared.configuration.optional.OptionalCodecConfiguration.{OptionalCodecConfiguration}
use Rattle.zarrs_metadata.specs.declared.configuration.optional.OptionalCodecConfiguration.TheVariants.{V1}
use Rattle.zarrs_metadata.specs.declared.plugin_create_error.PluginCreateError.{PluginCreateError}

-- The metadata of two chains: that of the masks, and that of the elements that are present.
pub record OptionalChains : Type 0 where
  pub mask_codecs : List Metadata
  pub data_codecs : List Metadata

-- what a configuration of `optional` is seen as: both chains' metadata
abbrev pub optional_seen : OptionalCodecConfiguration → OptionalChains
optional_seen (V1 c) = record { mask_codecs = metadatas_in c.mask_codecs; data_codecs = metadatas_in c.data_codecs }

-- the chains of a configuration, or the first error
abbrev pub read_optional : Members → Result OptionalChains PluginCreateError
read_optional configuration = do
  _ ← without_floats configuration
  mask_codecs ← metadata_at (codes "mask_codecs") configuration
  data_codecs ← metadata_at (codes "data_codecs") configuration
  Ok (record { mask_codecs = mask_codecs; data_codecs = data_codecs })

-- the members that are written of two chains
abbrev pub write_optional : OptionalChains → Members
write_optional c =
    member (codes "data_codecs") (metadata_list_tree c.data_codecs)
    (member (codes "mask_codecs") (metadata_list_tree c.mask_codecs) no_members)
