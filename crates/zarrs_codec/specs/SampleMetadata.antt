-- The metadata of the sample codecs of bytes.
use Rattle.std.specs.Prelude.{ℕ, true, List, Option, Some, None, Result, Ok, codes, if◌then◌else◌}
use Rattle.std.specs.Str.{bytes_eq}
use Rattle.zarrs_metadata.specs.Metadata.{Metadata}
use Rattle.zarrs_metadata.specs.declared.plugin_create_error.PluginCreateError.{PluginCreateError}
use Rattle.zarrs_codec.specs.declared.sample_bytes_codec.SampleBytesCodec.{SampleBytesCodec}
use Rattle.zarrs_codec.specs.declared.sample_bytes_codec.SampleBytesCodec.TheVariants.{Reverse, Length}

-- the name of a sample codec
abbrev pub sample_name : SampleBytesCodec → List ℕ
sample_name Reverse = codes "sample.reverse"
sample_name Length = codes "sample.length"

-- a codec by its name
abbrev pub sample_named : List ℕ → Option SampleBytesCodec
sample_named name =
    if bytes_eq name (codes "sample.reverse") then Some Reverse
    else if bytes_eq name (codes "sample.length") then Some Length
    else None

-- the metadata of a sample codec, which has no configuration
abbrev pub sample_metadata : SampleBytesCodec → Metadata
sample_metadata codec = record { name = sample_name codec; configuration = None; must_understand = true }

-- what the maker of the sample codecs makes of a metadata: the codec of its name, with any configuration
abbrev pub sample_made : Metadata → Result (Option SampleBytesCodec) PluginCreateError
sample_made metadata = Ok (sample_named metadata.name)
