-- The metadata of the codecs `vlen-utf8` and `vlen-bytes`, which have no settings.
-- Source: zarr-extensions, `vlen-utf8` and `vlen-bytes`.
use Rattle.std.specs.Prelude.{ℕ, Bool, List, Option, Some, None, is_some, ok_or, Result, Ok, codes, if◌then◌else◌}
use Rattle.std.specs.Str.{bytes_eq}
use Rattle.zarrs_chunk.specs.Answer.{◌>>=◌}
use Rattle.zarrs_metadata.specs.CodecMetadata.{members_of}
use Rattle.zarrs_metadata.specs.Data.{Members}
use Rattle.zarrs_metadata.specs.Metadata.{Metadata}
use Rattle.zarrs_metadata.specs.SqueezeConfiguration.{read_squeeze, write_squeeze}
use Rattle.zarrs_metadata.specs.declared.plugin_create_error.PluginCreateError.{PluginCreateError}
use Rattle.zarrs_metadata.specs.declared.plugin_create_error.PluginCreateError.TheVariants.{UnknownName}
use Rattle.zarrs_vlen_v2.specs.declared.vlen_v2_codec.VlenV2Codec.{VlenV2Codec}
use Rattle.zarrs_vlen_v2.specs.declared.vlen_v2_codec.VlenV2Codec.TheVariants.{Utf8, Bytes}

-- a codec's name
abbrev pub vlen_v2_name : VlenV2Codec → List ℕ
vlen_v2_name Utf8 = codes "vlen-utf8"
vlen_v2_name Bytes = codes "vlen-bytes"

-- the codec of a name, where it is one of the two
abbrev pub vlen_v2_named : List ℕ → Option VlenV2Codec
vlen_v2_named name =
    if bytes_eq name (vlen_v2_name Utf8) then Some Utf8
    else if bytes_eq name (vlen_v2_name Bytes) then Some Bytes
    else None

-- the name is that of `vlen-utf8` or of `vlen-bytes`
abbrev pub is_vlen_v2_name : List ℕ → Bool
is_vlen_v2_name name = is_some (vlen_v2_named name)

-- the codec of a metadata, by its name, with any configuration in which no number is a float, as of `squeeze`
abbrev pub vlen_v2_made : Metadata → Result VlenV2Codec PluginCreateError
vlen_v2_made metadata = do
  codec ← ok_or (vlen_v2_named metadata.name) UnknownName
  _ ← read_squeeze (members_of metadata.configuration)
  Ok codec

-- the configuration that is written, which has no members
abbrev pub write_vlen_v2 : Members
write_vlen_v2 = write_squeeze
