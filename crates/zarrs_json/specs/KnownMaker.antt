-- Which bytes-to-bytes codecs are made of a header's metadata.
use Rattle.std.specs.Prelude.{ℕ, List, Option, Some, None, option_map, Result, Ok, if◌then◌else◌}
use Rattle.std.specs.Str.{bytes_eq}
use Rattle.zarrs_metadata.specs.Metadata.{Metadata}
use Rattle.zarrs_metadata.specs.declared.plugin_create_error.PluginCreateError.{PluginCreateError}
use Rattle.zarrs_codec.specs.SampleMetadata.{sample_named}
use Rattle.zarrs_crc32c.specs.Crc32cMetadata.{crc32c_name}
use Rattle.zarrs_json.specs.declared.known_bytes_codec.KnownBytesCodec.{KnownBytesCodec}
use Rattle.zarrs_json.specs.declared.known_bytes_codec.KnownBytesCodec.TheVariants.{Crc32c, Sample}
use Rattle.zarrs_json.specs.declared.known_maker.KnownMaker.{KnownMaker}
use Rattle.zarrs_json.specs.declared.known_maker.KnownMaker.TheVariants.{Shipped, WithSamples}

-- the sample codec of a name, where samples are made
abbrev pub known_sample : KnownMaker → List ℕ → Option KnownBytesCodec
known_sample Shipped name = None
known_sample WithSamples name = option_map Sample (sample_named name)

-- what is made of a metadata: the codec of its name, with any configuration
abbrev pub known_made : KnownMaker → Metadata → Result (Option KnownBytesCodec) PluginCreateError
known_made maker metadata =
    Ok (if bytes_eq metadata.name crc32c_name then Some (Crc32c (record {})) else known_sample maker metadata.name)
