-- The configuration of codec `reshape`.
-- Source: zarr-extensions, `reshape`.
use Rattle.std.specs.Prelude.{zero, negsuc, List, [], ◌∷◌, Option, Some, None, map, Result, Ok, Err, codes}
use Rattle.serde_json.specs.Data.{Data, Num, unsigned, negative, float, null, boolean, number, string, array, object, Items, no_items, item, Members, no_members, member}
use Rattle.serde_json.specs.Find.{as_array, get_member}
use Rattle.serde_json.specs.View.{items_of}
use Rattle.zarrs_chunk.specs.Answer.{◌>>=◌, seen}
use Rattle.zarrs_metadata.specs.Dims.{Dim, size, auto, input_dims}
use Rattle.zarrs_metadata.specs.ReshapeShape.{reshape_shape_of}
use Rattle.zarrs_metadata.specs.Trees.{needed, without_floats, numbers_in, numbers_tree}
use Rattle.zarrs_metadata.specs.declared.configuration.reshape.ReshapeCodecConfiguration.{ReshapeCodecConfiguration}
use Rattle.zarrs_metadata.specs.declared.configuration.reshape.ReshapeCodecConfiguration.TheVariants.{V1}
use Rattle.zarrs_metadata.specs.declared.plugin_create_error.PluginCreateError.{PluginCreateError}
use Rattle.zarrs_metadata.specs.declared.plugin_create_error.PluginCreateError.TheVariants.{InvalidConfiguration}

-- what a configuration of `reshape` is seen as: its sizes
abbrev pub reshape_seen : ReshapeCodecConfiguration → List Dim
reshape_seen (V1 c) = c.shape

-- a number is a size; -1 is the automatic one, and no other is negative or a fraction
abbrev pub dim_of_number : Num → Option Dim
dim_of_number (unsigned n) = Some (size n)
dim_of_number (negative (negsuc zero)) = Some auto
dim_of_number (negative z) = None
dim_of_number (float x) = None

-- one size: a number, or a list of axes
abbrev pub dim_in : Data → Result Dim PluginCreateError
dim_in null = Err InvalidConfiguration
dim_in (boolean _) = Err InvalidConfiguration
dim_in (number n) = needed (dim_of_number n)
dim_in (string _) = Err InvalidConfiguration
dim_in (array items) = seen input_dims (numbers_in items)
dim_in (object _) = Err InvalidConfiguration

-- the sizes of a list's items
abbrev pub dims_in : Items → Result (List Dim) PluginCreateError
dims_in no_items = Ok []
dims_in (item tree items) = do
  dim ← dim_in tree
  dims ← dims_in items
  Ok (dim ∷ dims)

-- the sizes of a configuration, or the first error
abbrev pub read_reshape : Members → Result (List Dim) PluginCreateError
read_reshape configuration = do
  _ ← without_floats configuration
  tree ← needed (get_member (codes "shape") configuration)
  items ← needed (as_array tree)
  dims ← dims_in items
  reshape_shape_of dims

-- how one size is written
abbrev pub dim_tree : Dim → Data
dim_tree (size n) = number (unsigned n)
dim_tree auto = number (negative (negsuc zero))
dim_tree (input_dims axes) = numbers_tree axes

-- how a list of sizes is written
abbrev pub dims_tree : List Dim → Data
dims_tree dims = array (items_of (map dim_tree dims))

-- the members that are written of sizes
abbrev pub write_reshape : List Dim → Members
write_reshape dims = member (codes "shape") (dims_tree dims) no_members
