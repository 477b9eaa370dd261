-- Lists of metadata inside a configuration.
use Rattle.std.specs.Prelude.{ℕ, Bool, List, [], ◌∷◌, map, Result, Ok}
use Rattle.std.specs.List.{list_all}
use Rattle.serde_json.specs.Data.{Data, array, Items, no_items, item, Members}
use Rattle.serde_json.specs.Find.{as_array, get_member}
use Rattle.serde_json.specs.View.{items_of}
use Rattle.zarrs_chunk.specs.Answer.{◌>>=◌}
use Rattle.zarrs_metadata.specs.Metadata.{Metadata, metadata_of, write_metadata, has_no_float}
use Rattle.zarrs_metadata.specs.Trees.{needed}
use Rattle.zarrs_metadata.specs.declared.plugin_create_error.PluginCreateError.{PluginCreateError}

-- the metadata of a list's items
abbrev pub metadata_among : Items → Result (List Metadata) PluginCreateError
metadata_among no_items = Ok []
metadata_among (item tree items) = do
  m ← metadata_of tree
  ms ← metadata_among items
  Ok (m ∷ ms)

-- the list of metadata at a key of a configuration without floats
abbrev pub metadata_at : List ℕ → Members → Result (List Metadata) PluginCreateError
metadata_at key configuration = do
  tree ← needed (get_member key configuration)
  items ← needed (as_array tree)
  metadata_among items

-- how a list of metadata is written
abbrev pub metadata_list_tree : List Metadata → Data
metadata_list_tree list = array (items_of (map write_metadata list))

-- no number of their configurations is a float
abbrev pub have_no_float : List Metadata → Bool
have_no_float list = list_all (λ m. has_no_float m.configuration) list
