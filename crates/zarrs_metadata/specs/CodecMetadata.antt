-- The metadata of codecs: by which names they are known, what is made of a metadata, and what is written of a codec.
-- Source: the Zarr v3 core specification, `codecs`.
use Rattle.std.specs.Prelude.{ℕ, Bool, true, ◌||◌, List, Option, Some, None, Result, codes}
use Rattle.std.specs.Str.{bytes_eq}
use Rattle.serde_json.specs.Data.{Members, no_members}
use Rattle.zarrs_chunk.specs.Answer.{◌>>=◌, demand}
use Rattle.zarrs_data_type.specs.declared.endianness.Endianness.{Endianness}
use Rattle.zarrs_metadata.specs.BytesConfiguration.{read_bytes}
use Rattle.zarrs_metadata.specs.Dims.{Dim}
use Rattle.zarrs_metadata.specs.Metadata.{Metadata}
use Rattle.zarrs_metadata.specs.PackBitsConfiguration.{read_packbits}
use Rattle.zarrs_metadata.specs.ReshapeConfiguration.{read_reshape}
use Rattle.zarrs_metadata.specs.SqueezeConfiguration.{read_squeeze}
use Rattle.zarrs_metadata.specs.TransposeConfiguration.{read_transpose}
use Rattle.zarrs_metadata.specs.declared.configuration.packbits.PackBitsCodecConfigurationV1.{PackBitsCodecConfigurationV1}
use Rattle.zarrs_metadata.specs.declared.plugin_create_error.PluginCreateError.{PluginCreateError}
use Rattle.zarrs_metadata.specs.declared.plugin_create_error.PluginCreateError.TheVariants.{UnknownName}

-- ---- a codec's name, and what is read under it

-- the members of a configuration; a missing one has none
abbrev pub members_of : Option Members → Members
members_of None = no_members
members_of (Some members) = members

-- what is read of a metadata by one of a codec's names: another name is rejected before the configuration is looked at
abbrev pub made_of : {A : Type 0} → (List ℕ → Bool) → (Members → Result A PluginCreateError) → Metadata → Result A PluginCreateError
made_of is_name reading metadata = do
  _ ← demand (is_name metadata.name) UnknownName
  reading (members_of metadata.configuration)

-- what is written of a codec: its first name and its configuration; it has to be understood
abbrev pub codec_metadata : List ℕ → Members → Metadata
codec_metadata name configuration = record { name = name; configuration = Some configuration; must_understand = true }

-- ---- transpose

-- the name of `transpose`
abbrev pub transpose_name : List ℕ
transpose_name = codes "transpose"

-- the name is that of `transpose`
abbrev pub is_transpose_name : List ℕ → Bool
is_transpose_name name = bytes_eq name transpose_name

-- the order that a metadata of `transpose` has, or the first error
abbrev pub transpose_made : Metadata → Result (List ℕ) PluginCreateError
transpose_made metadata = made_of is_transpose_name read_transpose metadata

-- ---- reshape

-- the name of `reshape`
abbrev pub reshape_name : List ℕ
reshape_name = codes "reshape"

-- the name is that of `reshape`
abbrev pub is_reshape_name : List ℕ → Bool
is_reshape_name name = bytes_eq name reshape_name

-- the sizes that a metadata of `reshape` has, or the first error
abbrev pub reshape_made : Metadata → Result (List Dim) PluginCreateError
reshape_made metadata = made_of is_reshape_name read_reshape metadata

-- ---- squeeze, which is written by the first of its names

-- the name by which `squeeze` is written
abbrev pub squeeze_name : List ℕ
squeeze_name = codes "zarrs.squeeze"

-- the name is one of the two of `squeeze`
abbrev pub is_squeeze_name : List ℕ → Bool
is_squeeze_name name = bytes_eq name squeeze_name || bytes_eq name (codes "https://codec.zarrs.dev/array_to_array/squeeze")

-- a metadata is one of `squeeze`, or the first error
abbrev pub squeeze_made : Metadata → Result (Unit {0}) PluginCreateError
squeeze_made metadata = made_of is_squeeze_name read_squeeze metadata

-- ---- bytes, which is written by the first of its names

-- the name by which `bytes` is written
abbrev pub bytes_name : List ℕ
bytes_name = codes "bytes"

-- the name is one of the two of `bytes`
abbrev pub is_bytes_name : List ℕ → Bool
is_bytes_name name = bytes_eq name bytes_name || bytes_eq name (codes "endian")

-- the byte order that a metadata of `bytes` has, where it names one; or the first error
abbrev pub bytes_made : Metadata → Result (Option Endianness) PluginCreateError
bytes_made metadata = made_of is_bytes_name read_bytes metadata

-- ---- packbits

-- the name of `packbits`
abbrev pub packbits_name : List ℕ
packbits_name = codes "packbits"

-- the name is that of `packbits`
abbrev pub is_packbits_name : List ℕ → Bool
is_packbits_name name = bytes_eq name packbits_name

-- the fields that a metadata of `packbits` has, or the first error
abbrev pub packbits_made : Metadata → Result PackBitsCodecConfigurationV1 PluginCreateError
packbits_made metadata = made_of is_packbits_name read_packbits metadata
