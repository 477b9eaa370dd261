-- The configuration of codec `transpose`.
-- Source: the Zarr v3 codec `transpose`.
use Rattle.std.specs.Prelude.{ℕ, List, Result, codes}
use Rattle.serde_json.specs.Data.{Members, no_members, member}
use Rattle.serde_json.specs.Find.{get_member}
use Rattle.zarrs_chunk.specs.Answer.{◌>>=◌}
use Rattle.zarrs_metadata.specs.TransposeOrder.{transpose_order_of}
use Rattle.zarrs_metadata.specs.Trees.{needed, without_floats, number_list, numbers_tree}
use Rattle.zarrs_metadata.specs.declared.configuration.transpose.TransposeCodecConfiguration.{TransposeCodecConfiguration}
use Rattle.zarrs_metadata.specs.declared.configuration.transpose.TransposeCodecConfiguration.TheVariants.{V1}
use Rattle.zarrs_metadata.specs.declared.plugin_create_error.PluginCreateError.{PluginCreateError}

-- what a configuration of `transpose` is seen as: its order
abbrev pub transpose_seen : TransposeCodecConfiguration → List ℕ
transpose_seen (V1 c) = c.order

-- the order of a configuration, or the first error
abbrev pub read_transpose : Members → Result (List ℕ) PluginCreateError
read_transpose configuration = do
  _ ← without_floats configuration
  tree ← needed (get_member (codes "order") configuration)
  axes ← number_list tree
  transpose_order_of axes

-- the members that are written of an order
abbrev pub write_transpose : List ℕ → Members
write_transpose order = member (codes "order") (numbers_tree order) no_members
