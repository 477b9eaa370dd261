-- The metadata of the codec `example.byte_delta`.
use Rattle.std.specs.Prelude.{codes}
use Rattle.zarrs_codecs.specs.Metadata.{Metadata, metadata_named}

-- what is written of the codec: its name, and no configuration
abbrev pub byte_delta_metadata : Metadata
byte_delta_metadata = metadata_named (codes "example.byte_delta")
