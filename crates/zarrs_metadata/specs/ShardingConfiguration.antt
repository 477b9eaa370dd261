-- The configuration of codec `sharding_indexed`.
-- Source: the Zarr v3 codec `sharding_indexed`.
use Rattle.std.specs.Prelude.{ℕ, List, Option, Some, None, option_and_then, ok_or, Result, Ok, codes, if◌then◌else◌}
use Rattle.std.specs.Str.{bytes_eq}
use Rattle.serde_json.specs.Data.{Data, string, Members, no_members, member}
use Rattle.serde_json.specs.Find.{as_str, get_member}
use Rattle.zarrs_chunk.specs.Answer.{◌>>=◌}
use Rattle.zarrs_chunk.specs.ChunkShape.{shape_of}
use Rattle.zarrs_metadata.specs.Metadata.{Metadata}
use Rattle.zarrs_metadata.specs.MetadataList.{metadata_at, metadata_list_tree}
use Rattle.zarrs_metadata.specs.MetadataV3.{metadatas_in}
use Rattle.zarrs_metadata.specs.Trees.{needed, without_floats, number_list, numbers_tree}
use Rattle.zarrs_metadata.specs.declared.codec.sharding.ShardingIndexLocation.{ShardingIndexLocation}
use Rattle.zarrs_metadata.specs.declared.codec.sharding.ShardingIndexLocation.TheVariants.{Start, End}
use Rattle.zarrs_metadata.specs.declared.configuration.sharding.ShardingCodecConfiguration.{ShardingCodecConfiguration}
use Rattle.zarrs_metadata.specs.declared.configuration.sharding.ShardingCodecConfiguration.TheVariants.{V1}
use Rattle.zarrs_metadata.specs.declared.plugin_create_error.PluginCreateError.{PluginCreateError}
use Rattle.zarrs_metadata.specs.declared.plugin_create_error.PluginCreateError.TheVariants.{ZeroSize}

-- The shape of the inner chunks; the metadata of two chains, that of each inner chunk and that of the index; and where the index stands.
pub record ShardingParts : Type 0 where
  pub chunk_shape : List ℕ
  pub codecs : List Metadata
  pub index_codecs : List Metadata
  pub index_location : ShardingIndexLocation

-- what a configuration of `sharding_indexed` is seen as: these four parts
abbrev pub sharding_seen : ShardingCodecConfiguration → ShardingParts
sharding_seen (V1 c) =
    record { chunk_shape = c.chunk_shape; codecs = metadatas_in c.codecs; index_codecs = metadatas_in c.index_codecs; index_location = c.index_location }

-- a place of the index by its name
abbrev pub shard_index_named : List ℕ → Option ShardingIndexLocation
shard_index_named name =
    if bytes_eq name (codes "start") then Some Start else if bytes_eq name (codes "end") then Some End else None

-- the place of the index at a key; at the end where the key is missing
abbrev pub shard_index_in : Option Data → Result ShardingIndexLocation PluginCreateError
shard_index_in None = Ok End
shard_index_in (Some tree) = needed (option_and_then shard_index_named (as_str tree))

-- the parts of a configuration, or the first error
abbrev pub read_sharding : Members → Result ShardingParts PluginCreateError
read_sharding configuration = do
  _ ← without_floats configuration
  tree ← needed (get_member (codes "chunk_shape") configuration)
  sizes ← number_list tree
  codecs ← metadata_at (codes "codecs") configuration
  index_codecs ← metadata_at (codes "index_codecs") configuration
  index_location ← shard_index_in (get_member (codes "index_location") configuration)
  chunk_shape ← ok_or (shape_of sizes) ZeroSize
  Ok (record { chunk_shape = chunk_shape; codecs = codecs; index_codecs = index_codecs; index_location = index_location })

-- the text of a place of the index
abbrev pub shard_index_name : ShardingIndexLocation → List ℕ
shard_index_name Start = codes "start"
shard_index_name End = codes "end"

-- the members that are written of the parts
abbrev pub write_sharding : ShardingParts → Members
write_sharding c =
    member (codes "chunk_shape") (numbers_tree c.chunk_shape)
    (member (codes "codecs") (metadata_list_tree c.codecs)
    (member (codes "index_codecs") (metadata_list_tree c.index_codecs)
    (member (codes "index_location") (string (shard_index_name c.index_location)) no_members)))
