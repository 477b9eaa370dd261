-- The metadata of a codec, as a JSON tree.
-- Source: the Zarr v3 core specification, `codecs`.
use Rattle.std.specs.Prelude.{ℕ, Bool, true, false, not, ◌&&◌, List, Option, Some, None, is_some, Result, Ok, Err, codes, if◌then◌else◌}
use Rattle.serde_json.specs.Data.{Data, null, boolean, number, string, array, object, Members, no_members, member}
use Rattle.serde_json.specs.Find.{as_bool, as_object, get_member}
use Rattle.serde_json.specs.Written.{has_float, members_have_float}
use Rattle.zarrs_chunk.specs.Answer.{◌>>=◌, demand}
use Rattle.zarrs_metadata.specs.Trees.{needed_text, optional_key}
use Rattle.zarrs_metadata.specs.declared.plugin_create_error.PluginCreateError.{PluginCreateError}
use Rattle.zarrs_metadata.specs.declared.plugin_create_error.PluginCreateError.TheVariants.{InvalidConfiguration}

-- A codec's name, its configuration where it has one, and whether a reader that can't make the codec has to fail.
pub record Metadata : Type 0 where
  pub name : List ℕ
  pub configuration : Option Members
  pub must_understand : Bool

-- true where nothing is given
abbrev pub unless_false : Option Bool → Bool
unless_false None = true
unless_false (Some truth) = truth

-- the metadata of an object: its name, and optionally a configuration and whether it has to be understood
abbrev pub metadata_in : Members → Result Metadata PluginCreateError
metadata_in members = do
  name ← needed_text (get_member (codes "name") members)
  configuration ← optional_key as_object (get_member (codes "configuration") members)
  must_understand ← optional_key as_bool (get_member (codes "must_understand") members)
  Ok (record { name = name; configuration = configuration; must_understand = unless_false must_understand })

-- the metadata of a name alone, which has to be understood
abbrev pub metadata_named : List ℕ → Metadata
metadata_named name = record { name = name; configuration = None; must_understand = true }

-- the metadata as it is, but for whether it has to be understood
abbrev pub understood : Bool → Metadata → Metadata
understood must_understand m = record { name = m.name; configuration = m.configuration; must_understand = must_understand }

-- the metadata of a tree, which is the name alone or an object
abbrev pub metadata_of : Data → Result Metadata PluginCreateError
metadata_of null = Err InvalidConfiguration
metadata_of (boolean truth) = Err InvalidConfiguration
metadata_of (number value) = Err InvalidConfiguration
metadata_of (string name) = Ok (metadata_named name)
metadata_of (array items) = Err InvalidConfiguration
metadata_of (object members) = metadata_in members

-- the metadata of a JSON tree in which no number is a float, or the first error
abbrev pub read_metadata : Data → Result Metadata PluginCreateError
read_metadata tree = do
  _ ← demand (not (has_float tree)) InvalidConfiguration
  metadata_of tree

-- the members of a written metadata, each key where its value isn't the one of a missing key
abbrev pub must_understand_written : Bool → Members → Members
must_understand_written true members = members
must_understand_written false members = member (codes "must_understand") (boolean false) members

-- these members, and the configuration in front of them where there is one
abbrev pub configuration_written : Option Members → Members → Members
configuration_written None members = members
configuration_written (Some configuration) members = member (codes "configuration") (object configuration) members

-- the members of the object that metadata is written as
abbrev pub metadata_members : Metadata → Members
metadata_members m =
    configuration_written m.configuration (must_understand_written m.must_understand (member (codes "name") (string m.name) no_members))

-- the name is enough
abbrev pub is_name_alone : Option Members → Bool → Bool
is_name_alone configuration must_understand = must_understand && not (is_some configuration)

-- how metadata is written: as its name, where that is enough, else as an object
abbrev pub write_metadata : Metadata → Data
write_metadata m = if is_name_alone m.configuration m.must_understand then string m.name else object (metadata_members m)

-- no number of the configuration is a float
abbrev pub has_no_float : Option Members → Bool
has_no_float None = true
has_no_float (Some configuration) = not (members_have_float configuration)
