-- The metadata of the codec `crc32c`.
-- Source: the Zarr v3 codec `crc32c`.
use Rattle.std.specs.Prelude.{ℕ, true, List, Option, Some, None, Result, Ok, codes, if◌then◌else◌}
use Rattle.std.specs.Str.{bytes_eq}
use Rattle.zarrs_metadata.specs.Metadata.{Metadata}
use Rattle.zarrs_metadata.specs.declared.plugin_create_error.PluginCreateError.{PluginCreateError}
use Rattle.zarrs_crc32c.specs.declared.crc32c_codec.Crc32cCodec.{Crc32cCodec}

-- the name of `crc32c`
abbrev pub crc32c_name : List ℕ
crc32c_name = codes "crc32c"

-- what is written of the codec: its name, and no configuration
abbrev pub crc32c_metadata : Metadata
crc32c_metadata = record { name = crc32c_name; configuration = None; must_understand = true }

-- the codec of a metadata that has its name, with any configuration; none of any other
abbrev pub crc32c_made : Metadata → Result (Option Crc32cCodec) PluginCreateError
crc32c_made metadata = Ok (if bytes_eq metadata.name crc32c_name then Some (record {}) else None)
