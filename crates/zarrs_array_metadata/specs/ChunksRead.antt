-- An array's shape, that of its chunks, and under which keys these are stored, read from JSON.
-- Source: the Zarr v3 core specification, "Array metadata", "Regular grids" and "Chunk key encoding".
use Rattle.std.specs.Prelude.{ℕ, ◌==◌, List, [], ◌∷◌, length, Option, Some, None, option_map, option_and_then, ok_or, Result, Ok, Err, codes, if◌then◌else◌}
use Rattle.std.specs.Str.{bytes_eq}
use Rattle.serde_json.specs.Data.{Data, Items, no_items, item, Members}
use Rattle.serde_json.specs.Find.{as_array, as_str, get_member}
use Rattle.zarrs_array_plan.specs.declared.chunk_key_encoding.ChunkKeyEncoding.{ChunkKeyEncoding}
use Rattle.zarrs_array_plan.specs.declared.chunk_key_encoding.ChunkKeyEncoding.TheVariants.{Default, V2}
use Rattle.zarrs_array_plan.specs.declared.chunk_key_encoding.ChunkKeySeparator.{ChunkKeySeparator}
use Rattle.zarrs_array_plan.specs.declared.chunk_key_encoding.ChunkKeySeparator.TheVariants.{Slash, Dot}
use Rattle.zarrs_chunk.specs.Answer.{◌>>=◌, demand, seen}
use Rattle.zarrs_chunk.specs.ChunkShape.{shape_of}
use Rattle.zarrs_metadata.specs.Trees.{whole_number}
use Rattle.zarrs_array_metadata.specs.Extensions.{extension_at}
use Rattle.zarrs_array_metadata.specs.declared.array_metadata_error.ArrayMetadataError.{ArrayMetadataError}
use Rattle.zarrs_array_metadata.specs.declared.array_metadata_error.ArrayMetadataError.TheVariants.{InvalidShape, UnsupportedChunkGrid, InvalidChunkShape, ZeroSize, IncompatibleDimensionality, UnsupportedChunkKeyEncoding, InvalidSeparator}

-- the whole numbers that a list's items are, where each is one, of 64 bits
abbrev pub sizes_among : Items → Option (List ℕ)
sizes_among no_items = Some []
sizes_among (item tree items) = option_and_then (λ size. option_map (λ sizes. size ∷ sizes) (sizes_among items)) (whole_number tree)

-- the whole numbers of a list
abbrev pub sizes_in : Option Data → Option (List ℕ)
sizes_in tree = option_and_then sizes_among (option_and_then as_array tree)

-- the array's shape, whose sizes may be 0
abbrev pub array_shape_at : Option Data → Result (List ℕ) ArrayMetadataError
array_shape_at tree = ok_or (sizes_in tree) InvalidShape

-- what a configuration has at a key, where there is a configuration
abbrev pub member_of : List ℕ → Option Members → Option Data
member_of key configuration = option_and_then (get_member key) configuration

-- the shape of chunks that the configuration of a regular grid has, or the first error: none of its sizes is zero, and it has so many axes
abbrev pub chunk_sizes : ℕ → Option Members → Result (List ℕ) ArrayMetadataError
chunk_sizes axes configuration = do
  sizes ← ok_or (sizes_in (member_of (codes "chunk_shape") configuration)) InvalidChunkShape
  chunk_shape ← ok_or (shape_of sizes) ZeroSize
  _ ← demand (length sizes == axes) IncompatibleDimensionality
  Ok chunk_shape

-- the shape of the chunks that an array of so many axes is divided into, or the first error: the grid is a regular one
abbrev pub chunk_shape_at : ℕ → Option Data → Result (List ℕ) ArrayMetadataError
chunk_shape_at axes tree = do
  grid ← ok_or (extension_at tree) UnsupportedChunkGrid
  _ ← demand (bytes_eq grid.name (codes "regular")) UnsupportedChunkGrid
  chunk_sizes axes grid.configuration

-- a separator by its text
abbrev pub separator_named : List ℕ → Option ChunkKeySeparator
separator_named name = if bytes_eq name (codes "/") then Some Slash else if bytes_eq name (codes ".") then Some Dot else None

-- the separator at a key, or the usual one where the key is missing
abbrev pub separator_in : ChunkKeySeparator → Option Data → Result ChunkKeySeparator ArrayMetadataError
separator_in usual None = Ok usual
separator_in usual (Some tree) = ok_or (option_and_then separator_named (as_str tree)) InvalidSeparator

-- how the indices of a chunk make its key, by a name and its configuration: the usual separator is `/` of `default`, and `.` of `v2`
abbrev pub key_encoding_named : List ℕ → Option Members → Result ChunkKeyEncoding ArrayMetadataError
key_encoding_named name configuration =
    if bytes_eq name (codes "default") then seen Default (separator_in Slash (member_of (codes "separator") configuration))
    else if bytes_eq name (codes "v2") then seen V2 (separator_in Dot (member_of (codes "separator") configuration))
    else Err UnsupportedChunkKeyEncoding

-- how the indices of a chunk make its key, or the first error
abbrev pub chunk_key_encoding_at : Option Data → Result ChunkKeyEncoding ArrayMetadataError
chunk_key_encoding_at tree = do
  encoding ← ok_or (extension_at tree) UnsupportedChunkKeyEncoding
  key_encoding_named encoding.name encoding.configuration
