-- The metadata of an array, written as JSON.
-- Source: the Zarr v3 core specification, "Array metadata".
use Rattle.std.specs.Prelude.{ℕ, List, [], ◌∷◌, map, Option, Some, None, ok_or, Result, Ok, codes}
use Rattle.serde_json.specs.Data.{Data, unsigned, null, number, string, array, object, Members, no_members, member, put}
use Rattle.serde_json.specs.View.{items_of}
use Rattle.zarrs_array_plan.specs.declared.chunk_key_encoding.ChunkKeyEncoding.{ChunkKeyEncoding}
use Rattle.zarrs_array_plan.specs.declared.chunk_key_encoding.ChunkKeyEncoding.TheVariants.{Default, V2}
use Rattle.zarrs_array_plan.specs.declared.chunk_key_encoding.ChunkKeySeparator.{ChunkKeySeparator}
use Rattle.zarrs_array_plan.specs.declared.chunk_key_encoding.ChunkKeySeparator.TheVariants.{Slash, Dot}
use Rattle.zarrs_chunk.specs.Answer.{◌>>=◌}
use Rattle.zarrs_fill_values.specs.NameTree.{name_tree}
use Rattle.zarrs_fill_values.specs.Shown.{shown}
use Rattle.zarrs_metadata.specs.Metadata.{Metadata, write_metadata}
use Rattle.zarrs_metadata.specs.Trees.{numbers_tree}
use Rattle.zarrs_array_metadata.specs.ArrayMetadata.{ArrayMetadata}
use Rattle.zarrs_array_metadata.specs.declared.array_metadata_error.ArrayMetadataError.{ArrayMetadataError}
use Rattle.zarrs_array_metadata.specs.declared.array_metadata_error.ArrayMetadataError.TheVariants.{InvalidFillValue}

-- an extension point, by its name and its configuration
abbrev pub extension_tree : List ℕ → Members → Data
extension_tree name configuration = object (member (codes "configuration") (object configuration) (member (codes "name") (string name) no_members))

-- a regular grid, by the sizes of its chunks
abbrev pub grid_tree : List ℕ → Data
grid_tree chunk_shape = extension_tree (codes "regular") (member (codes "chunk_shape") (numbers_tree chunk_shape) no_members)

-- the text of a separator
abbrev pub separator_text : ChunkKeySeparator → List ℕ
separator_text Slash = codes "/"
separator_text Dot = codes "."

-- the configuration of a key encoding: its separator
abbrev pub separator_members : ChunkKeySeparator → Members
separator_members separator = member (codes "separator") (string (separator_text separator)) no_members

-- how the indices of a chunk make its key
abbrev pub key_encoding_tree : ChunkKeyEncoding → Data
key_encoding_tree (Default separator) = extension_tree (codes "default") (separator_members separator)
key_encoding_tree (V2 separator) = extension_tree (codes "v2") (separator_members separator)

-- a name alone, as an object
abbrev pub named_object : Data → Data
named_object (string name) = object (member (codes "name") (string name) no_members)
named_object tree = tree

-- A codec's metadata: an object, also where the name alone would do, since readers of Zarr 3.0 take none.
abbrev pub codec_tree : Metadata → Data
codec_tree codec = named_object (write_metadata codec)

-- the list of codecs
abbrev pub codecs_tree : List Metadata → Data
codecs_tree codecs = array (items_of (map codec_tree codecs))

-- the name of an axis, or null where it has none
abbrev pub dimension_name_tree : Option (List ℕ) → Data
dimension_name_tree None = null
dimension_name_tree (Some name) = string name

-- the names of axes
abbrev pub dimension_names_tree : List (Option (List ℕ)) → Data
dimension_names_tree names = array (items_of (map dimension_name_tree names))

-- the members, and the attributes where there are some
abbrev pub with_attributes : Option Members → Members → Members
with_attributes None members = members
with_attributes (Some attributes) members = put (codes "attributes") (object attributes) members

-- the members, and the names of axes where there are some
abbrev pub with_names : Option (List (Option (List ℕ))) → Members → Members
with_names None members = members
with_names (Some names) members = put (codes "dimension_names") (dimension_names_tree names) members

-- the members, with each of these trees at its key
abbrev pub put_all : List (List ℕ × Data) → Members → Members
put_all [] members = members
put_all (entry ∷ entries) members = put entry.0 entry.1 (put_all entries members)

-- what stands at each key that has to be there, where this tree shows the fill value
abbrev pub needed_entries : ArrayMetadata → Data → List (List ℕ × Data)
needed_entries m fill =
    (codes "zarr_format", number (unsigned 3))
    ∷ (codes "node_type", string (codes "array"))
    ∷ (codes "shape", numbers_tree m.shape)
    ∷ (codes "data_type", name_tree m.element_name)
    ∷ (codes "chunk_grid", grid_tree m.chunk_shape)
    ∷ (codes "chunk_key_encoding", key_encoding_tree m.chunk_key_encoding)
    ∷ (codes "fill_value", fill)
    ∷ (codes "codecs", codecs_tree m.codecs)
    ∷ []

-- the members that metadata is written as, where this tree shows the fill value
abbrev pub array_members : ArrayMetadata → Data → Members
array_members m fill = put_all (needed_entries m fill) (with_attributes m.attributes (with_names m.dimension_names m.additional))

-- how metadata is written, or the error where its fill value isn't one of its type
abbrev pub write_array : ArrayMetadata → Result Data ArrayMetadataError
write_array m = do
  fill ← ok_or (shown m.element_name m.fill_value) InvalidFillValue
  Ok (object (array_members m fill))
