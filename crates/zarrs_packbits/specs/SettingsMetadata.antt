-- The metadata of a codec `packbits`.
-- Source: zarr-extensions, `packbits`.
use Rattle.std.specs.Prelude.{Some, Result}
use Rattle.zarrs_chunk.specs.Answer.{◌>>=◌}
use Rattle.zarrs_metadata.specs.CodecMetadata.{made_of, is_packbits_name}
use Rattle.zarrs_metadata.specs.Data.{Members}
use Rattle.zarrs_metadata.specs.Metadata.{Metadata}
use Rattle.zarrs_metadata.specs.PackBitsConfiguration.{read_packbits, write_packbits, padding_or_none}
use Rattle.zarrs_metadata.specs.declared.configuration.packbits.PackBitsCodecConfigurationV1.{PackBitsCodecConfigurationV1}
use Rattle.zarrs_metadata.specs.declared.plugin_create_error.PluginCreateError.{PluginCreateError}
use Rattle.zarrs_packbits.specs.PackBitsSettings.{PackBitsSettings, packbits_settings}

-- the settings of a configuration's fields, or the error: a padding byte that isn't given is none
abbrev pub settings_of : PackBitsCodecConfigurationV1 → Result PackBitsSettings PluginCreateError
settings_of fields = packbits_settings (padding_or_none fields.padding_encoding) fields.first_bit fields.last_bit

-- the settings of a configuration, or the first error
abbrev pub read_settings : Members → Result PackBitsSettings PluginCreateError
read_settings configuration = do
  fields ← read_packbits configuration
  settings_of fields

-- the settings of a metadata, or the first error
abbrev pub settings_made : Metadata → Result PackBitsSettings PluginCreateError
settings_made metadata = made_of is_packbits_name read_settings metadata

-- the members that are written of settings
abbrev pub write_settings : PackBitsSettings → Members
write_settings settings =
    write_packbits (record { padding_encoding = Some settings.padding; first_bit = settings.first_bit; last_bit = settings.last_bit })
