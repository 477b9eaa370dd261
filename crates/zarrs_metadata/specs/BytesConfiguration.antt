-- The configuration of codec `bytes`.
-- Source: the Zarr v3 codec `bytes`.
use Rattle.std.specs.Prelude.{ℕ, List, Option, Some, None, option_and_then, Result, codes, if◌then◌else◌}
use Rattle.std.specs.Str.{bytes_eq}
use Rattle.serde_json.specs.Data.{Data, string, Members, no_members, member}
use Rattle.serde_json.specs.Find.{as_str, get_member}
use Rattle.zarrs_chunk.specs.Answer.{◌>>=◌}
use Rattle.zarrs_data_type.specs.declared.endianness.Endianness.{Endianness}
use Rattle.zarrs_data_type.specs.declared.endianness.Endianness.TheVariants.{Little, Big}
use Rattle.zarrs_metadata.specs.Trees.{optional_key, without_floats}
use Rattle.zarrs_metadata.specs.declared.configuration.bytes.BytesCodecConfiguration.{BytesCodecConfiguration}
use Rattle.zarrs_metadata.specs.declared.configuration.bytes.BytesCodecConfiguration.TheVariants.{V1}
use Rattle.zarrs_metadata.specs.declared.plugin_create_error.PluginCreateError.{PluginCreateError}

-- what a configuration of `bytes` is seen as: its byte order, where it has one
abbrev pub bytes_seen : BytesCodecConfiguration → Option Endianness
bytes_seen (V1 c) = c.endian

-- a byte order by its name
abbrev pub endianness_named : List ℕ → Option Endianness
endianness_named name =
    if bytes_eq name (codes "little") then Some Little else if bytes_eq name (codes "big") then Some Big else None

-- the byte order that a tree names, where it is one of the two texts
abbrev pub endianness_in : Data → Option Endianness
endianness_in tree = option_and_then endianness_named (as_str tree)

-- the byte order that the members of a configuration name, none where the key is missing or null; or the first error
abbrev pub read_bytes : Members → Result (Option Endianness) PluginCreateError
read_bytes configuration = do
  _ ← without_floats configuration
  optional_key endianness_in (get_member (codes "endian") configuration)

-- the text of a byte order
abbrev pub endianness_name : Endianness → List ℕ
endianness_name Little = codes "little"
endianness_name Big = codes "big"

-- the members that are written of a byte order; there is none where it isn't given
abbrev pub write_bytes : Option Endianness → Members
write_bytes None = no_members
write_bytes (Some endian) = member (codes "endian") (string (endianness_name endian)) no_members
