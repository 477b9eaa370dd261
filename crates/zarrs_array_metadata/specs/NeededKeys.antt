-- What the metadata of an array has to say before its keys are read.
-- Source: the Zarr v3 core specification, "Array metadata".
use Rattle.std.specs.Prelude.{ℕ, ◌==◌, Bool, false, List, Option, Some, None, option_and_then, is_some, Result, codes}
use Rattle.std.specs.Str.{bytes_eq}
use Rattle.serde_json.specs.Data.{Data, Members}
use Rattle.serde_json.specs.Find.{as_str, get_member}
use Rattle.zarrs_chunk.specs.Answer.{◌>>=◌, demand}
use Rattle.zarrs_metadata.specs.Trees.{whole_number}
use Rattle.zarrs_array_metadata.specs.ArrayMetadataError.{key_text}
use Rattle.zarrs_array_metadata.specs.declared.array_metadata_error.ArrayKey.{ArrayKey}
use Rattle.zarrs_array_metadata.specs.declared.array_metadata_error.ArrayKey.TheVariants as needed
use Rattle.zarrs_array_metadata.specs.declared.array_metadata_error.ArrayMetadataError.{ArrayMetadataError}
use Rattle.zarrs_array_metadata.specs.declared.array_metadata_error.ArrayMetadataError.TheVariants.{UnsupportedFormat, NotAnArray, MissingKey}

-- a number is there, and it is 3
abbrev pub is_three : Option ℕ → Bool
is_three None = false
is_three (Some number) = number == 3

-- the format is the whole number 3
abbrev pub is_format_3 : Option Data → Bool
is_format_3 tree = is_three (option_and_then whole_number tree)

-- a text is there, and it is `array`
abbrev pub is_array_text : Option (List ℕ) → Bool
is_array_text None = false
is_array_text (Some text) = bytes_eq text (codes "array")

-- the node is an array
abbrev pub is_array_node : Option Data → Bool
is_array_node tree = is_array_text (option_and_then as_str tree)

-- a key is there, else the error names it
abbrev pub needed_key : ArrayKey → Members → Result (Unit {0}) ArrayMetadataError
needed_key key members = demand (is_some (get_member (key_text key) members)) (MissingKey key)

-- each key is there that has to be, else the error names the first in this order that isn't
abbrev pub needed_keys : Members → Result (Unit {0}) ArrayMetadataError
needed_keys members = do
  _ ← needed_key needed.Shape members
  _ ← needed_key needed.DataType members
  _ ← needed_key needed.ChunkGrid members
  _ ← needed_key needed.ChunkKeyEncoding members
  _ ← needed_key needed.FillValue members
  needed_key needed.Codecs members

-- the metadata is one of an array in version 3, and has each key that it has to have
abbrev pub is_of_array : Members → Result (Unit {0}) ArrayMetadataError
is_of_array members = do
  _ ← demand (is_format_3 (get_member (codes "zarr_format") members)) UnsupportedFormat
  _ ← demand (is_array_node (get_member (codes "node_type") members)) NotAnArray
  needed_keys members
