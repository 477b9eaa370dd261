-- The metadata of a codec of pairs: the caller's.
use Rattle.std.specs.Prelude.{Option, Some, None, Result, Ok, if◌then◌else◌}
use Rattle.std.specs.Str.{bytes_eq}
use Rattle.zarrs_metadata.specs.Metadata.{Metadata}
use Rattle.zarrs_metadata.specs.declared.plugin_create_error.PluginCreateError.{PluginCreateError}
use Rattle.zarrs_pairs.specs.PairsTable.{table_metadata}
use Rattle.zarrs_pairs.specs.declared.pairs_codec.PairsCodec.{PairsCodec}

-- what is written of a codec of pairs: what its table was made with
abbrev pub pairs_metadata : PairsCodec → Metadata
pairs_metadata codec = table_metadata codec.table.now

-- the codec, of a metadata that has its name, with any configuration; none of any other
abbrev pub pairs_made : PairsCodec → Metadata → Result (Option PairsCodec) PluginCreateError
pairs_made codec metadata = Ok (if bytes_eq metadata.name (pairs_metadata codec).name then Some codec else None)
