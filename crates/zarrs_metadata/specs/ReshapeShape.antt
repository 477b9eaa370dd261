-- What a reshape's sizes are seen as, and made of.
-- Source: zarr-extensions, `reshape`.
use Rattle.std.specs.Prelude.{nat_le, List, Result, Ok}
use Rattle.zarrs_chunk.specs.Answer.{◌>>=◌, demand}
use Rattle.zarrs_metadata.specs.Dims.{Dim, size, auto, input_dims, autos, has_no_zero}
use Rattle.zarrs_metadata.specs.declared.codec.reshape.ReshapeDim.{ReshapeDim}
use Rattle.zarrs_metadata.specs.declared.codec.reshape.ReshapeDim.TheVariants.{Size, Auto, InputDims}
use Rattle.zarrs_metadata.specs.declared.plugin_create_error.PluginCreateError.{PluginCreateError}
use Rattle.zarrs_metadata.specs.declared.plugin_create_error.PluginCreateError.TheVariants.{MultipleAuto, ZeroSize}

-- what a `ReshapeDim` is seen as: one size of a reshape
abbrev pub dim_of : ReshapeDim → Dim
dim_of (Size n) = size n
dim_of Auto = auto
dim_of (InputDims axes) = input_dims axes.items

-- these sizes as those of a reshape, or the first error
abbrev pub reshape_shape_of : List Dim → Result (List Dim) PluginCreateError
reshape_shape_of dims = do
  _ ← demand (has_no_zero dims) ZeroSize
  _ ← demand (nat_le (autos dims) 1) MultipleAuto
  Ok dims
