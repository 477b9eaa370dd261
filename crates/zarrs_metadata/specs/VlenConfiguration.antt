-- The configuration of codec `vlen`.
-- Source: codec.zarrs.dev, `vlen`.
use Rattle.std.specs.Prelude.{ℕ, List, Option, Some, None, option_and_then, Result, Ok, codes, if◌then◌else◌}
use Rattle.std.specs.Str.{bytes_eq}
use Rattle.serde_json.specs.Data.{Data, string, Members, no_members, member}
use Rattle.serde_json.specs.Find.{as_str, get_member}
use Rattle.zarrs_chunk.specs.Answer.{◌>>=◌, seen}
use Rattle.zarrs_metadata.specs.Metadata.{Metadata}
use Rattle.zarrs_metadata.specs.MetadataList.{metadata_at, metadata_list_tree}
use Rattle.zarrs_metadata.specs.MetadataV3.{metadatas_seen}
use Rattle.zarrs_metadata.specs.Trees.{needed, without_floats}
use Rattle.zarrs_metadata.specs.declared.codec.vlen.VlenIndexDataType.{VlenIndexDataType}
use Rattle.zarrs_metadata.specs.declared.codec.vlen.VlenIndexDataType.TheVariants.{UInt32, UInt64}
use Rattle.zarrs_metadata.specs.declared.codec.vlen.VlenIndexLocation.{VlenIndexLocation}
use Rattle.zarrs_metadata.specs.declared.codec.vlen.VlenIndexLocation.TheVariants.{Start, End}
use Rattle.zarrs_metadata.specs.declared.configuration.vlen.VlenCodecConfiguration.{VlenCodecConfiguration}
use Rattle.zarrs_metadata.specs.declared.configuration.vlen.VlenCodecConfiguration.TheVariants.{V0, V0_1}
use Rattle.zarrs_metadata.specs.declared.metadata_v3.MetadataV3.{MetadataV3}
use Rattle.zarrs_metadata.specs.declared.plugin_create_error.PluginCreateError.{PluginCreateError}

-- The metadata of two chains, that of the offsets and that of the elements' bytes; as which type the offsets are stored; and where, which version 0 doesn't say.
pub record VlenParts : Type 0 where
  pub index_codecs : List Metadata
  pub data_codecs : List Metadata
  pub index_data_type : VlenIndexDataType
  pub index_location : Option VlenIndexLocation

-- the parts of two lists of metadata, a type of offsets and their place, where it is given
abbrev pub vlen_parts : List MetadataV3 → List MetadataV3 → VlenIndexDataType → Option VlenIndexLocation → VlenParts
vlen_parts index_codecs data_codecs index_data_type index_location =
    record { index_codecs = metadatas_seen index_codecs; data_codecs = metadatas_seen data_codecs; index_data_type = index_data_type; index_location = index_location }

-- what a configuration of `vlen` is seen as: these four parts
abbrev pub vlen_seen : VlenCodecConfiguration → VlenParts
vlen_seen (V0 c) = vlen_parts c.index_codecs.items c.data_codecs.items c.index_data_type None
vlen_seen (V0_1 c) =
    vlen_parts c.index_codecs.items c.data_codecs.items c.index_data_type (Some c.index_location)

-- a type of offsets by its name
abbrev pub index_data_type_named : List ℕ → Option VlenIndexDataType
index_data_type_named name =
    if bytes_eq name (codes "uint32") then Some UInt32 else if bytes_eq name (codes "uint64") then Some UInt64 else None

-- a place of the offsets by its name
abbrev pub index_location_named : List ℕ → Option VlenIndexLocation
index_location_named name =
    if bytes_eq name (codes "start") then Some Start else if bytes_eq name (codes "end") then Some End else None

-- the type of offsets at a key, which has to be there
abbrev pub index_data_type_in : Option Data → Result VlenIndexDataType PluginCreateError
index_data_type_in value = needed (option_and_then (λ tree. option_and_then index_data_type_named (as_str tree)) value)

-- the place of the offsets at a key that may be missing
abbrev pub index_location_in : Option Data → Result (Option VlenIndexLocation) PluginCreateError
index_location_in None = Ok None
index_location_in (Some tree) = seen Some (needed (option_and_then index_location_named (as_str tree)))

-- the parts of a configuration, or the first error
abbrev pub read_vlen : Members → Result VlenParts PluginCreateError
read_vlen configuration = do
  _ ← without_floats configuration
  index_codecs ← metadata_at (codes "index_codecs") configuration
  data_codecs ← metadata_at (codes "data_codecs") configuration
  index_data_type ← index_data_type_in (get_member (codes "index_data_type") configuration)
  index_location ← index_location_in (get_member (codes "index_location") configuration)
  Ok (record { index_codecs = index_codecs; data_codecs = data_codecs; index_data_type = index_data_type; index_location = index_location })

-- the text of a type of offsets
abbrev pub index_data_type_name : VlenIndexDataType → List ℕ
index_data_type_name UInt32 = codes "uint32"
index_data_type_name UInt64 = codes "uint64"

-- the text of a place of the index
abbrev pub index_location_name : VlenIndexLocation → List ℕ
index_location_name Start = codes "start"
index_location_name End = codes "end"

-- the place of the offsets is written where it is given
abbrev pub index_location_members : Option VlenIndexLocation → Members
index_location_members None = no_members
index_location_members (Some location) = member (codes "index_location") (string (index_location_name location)) no_members

-- the members that are written of the parts
abbrev pub write_vlen : VlenParts → Members
write_vlen c =
    member (codes "data_codecs") (metadata_list_tree c.data_codecs)
    (member (codes "index_codecs") (metadata_list_tree c.index_codecs)
    (member (codes "index_data_type") (string (index_data_type_name c.index_data_type)) (index_location_members c.index_location)))
