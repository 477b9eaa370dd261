-- The configuration of codec `squeeze`, which has no settings.
-- Source: codec.zarrs.dev, `squeeze`.
use Rattle.std.specs.Prelude.{Result}
use Rattle.serde_json.specs.Data.{Members, no_members}
use Rattle.zarrs_metadata.specs.Trees.{without_floats}
use Rattle.zarrs_metadata.specs.declared.plugin_create_error.PluginCreateError.{PluginCreateError}

-- any members are a configuration of `squeeze` where no number among them is a float, else the error
abbrev pub read_squeeze : Members → Result (Unit {0}) PluginCreateError
read_squeeze configuration = without_floats configuration

-- the members that are written of `squeeze`: none
abbrev pub write_squeeze : Members
write_squeeze = no_members
