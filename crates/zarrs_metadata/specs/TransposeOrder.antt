-- What an order is made of.
-- Source: zarrs, `TransposeOrder`.
use Rattle.std.specs.Prelude.{ℕ, List, Result, Ok}
use Rattle.zarrs_chunk.specs.Answer.{◌>>=◌, demand}
use Rattle.zarrs_metadata.specs.Orders.{is_order}
use Rattle.zarrs_metadata.specs.declared.plugin_create_error.PluginCreateError.{PluginCreateError}
use Rattle.zarrs_metadata.specs.declared.plugin_create_error.PluginCreateError.TheVariants.{NotAPermutation}

-- these axes as an order, or the error
abbrev pub transpose_order_of : List ℕ → Result (List ℕ) PluginCreateError
transpose_order_of axes = do
  _ ← demand (is_order axes) NotAPermutation
  Ok axes
