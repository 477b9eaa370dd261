-- The metadata of an array, read from JSON.
-- Source: the Zarr v3 core specification, "Array metadata"; zarrs, `ArrayMetadataV3`.
use Rattle.std.specs.Prelude.{ℕ, List, length, Option, Some, None, option_map, option_and_then, ok_or, Result, Ok, Err, codes}
use Rattle.serde_json.specs.Data.{Data, Members}
use Rattle.serde_json.specs.Find.{as_object, get_member}
use Rattle.serde_json.specs.Read.{read}
use Rattle.zarrs_array_plan.specs.declared.chunk_key_encoding.ChunkKeyEncoding.{ChunkKeyEncoding}
use Rattle.zarrs_chunk.specs.Answer.{◌>>=◌}
use Rattle.zarrs_data_type.specs.ElementType.{ElementType}
use Rattle.zarrs_fill_values.specs.ElementName.{type_of}
use Rattle.zarrs_fill_values.specs.FillValues.{fill_of}
use Rattle.zarrs_fill_values.specs.NameTree.{name_in}
use Rattle.zarrs_fill_values.specs.declared.element_name.ElementName.{ElementName}
use Rattle.zarrs_metadata.specs.Metadata.{Metadata}
use Rattle.zarrs_metadata.specs.MetadataV3.{configuration_seen, metadatas_in}
use Rattle.zarrs_array_metadata.specs.ArrayMetadataError.{element_answer}
use Rattle.zarrs_array_metadata.specs.ChunksRead.{array_shape_at, chunk_shape_at, chunk_key_encoding_at}
use Rattle.zarrs_array_metadata.specs.Extensions.{codec_list_at}
use Rattle.zarrs_array_metadata.specs.NeededKeys.{is_of_array}
use Rattle.zarrs_array_metadata.specs.OtherKeys.{names_seen}
use Rattle.zarrs_array_metadata.specs.OthersRead.{others_in}
use Rattle.zarrs_array_metadata.specs.declared.array_metadata_error.ArrayMetadataError.{ArrayMetadataError}
use Rattle.zarrs_array_metadata.specs.declared.array_metadata_error.ArrayMetadataError.TheVariants.{NotJson, NotAnObject, UnsupportedDataType, InvalidFillValue}
use Rattle.zarrs_array_metadata.specs.declared.array_metadata_v3.ArrayMetadataV3.{ArrayMetadataV3}

-- An array's sizes; the type of its elements, by its name, and as chunks know it; the sizes of its chunks, and how the indices of one make its key; its fill value, and the metadata of its codecs; and its attributes, the names of its axes, and the members of other keys, as they are.
pub record ArrayMetadata : Type 0 where
  pub shape : List ℕ
  pub element_name : ElementName
  pub data_type : ElementType
  pub chunk_shape : List ℕ
  pub chunk_key_encoding : ChunkKeyEncoding
  pub fill_value : List ℕ
  pub codecs : List Metadata
  pub attributes : Option Members
  pub dimension_names : Option (List (Option (List ℕ)))
  pub additional : Members

-- what an `ArrayMetadataV3` is seen as
abbrev pub array_seen : ArrayMetadataV3 → ArrayMetadata
array_seen m = record {
  shape = m.shape.items;
  element_name = m.element_name;
  data_type = m.data_type;
  chunk_shape = m.chunk_shape;
  chunk_key_encoding = m.chunk_key_encoding;
  fill_value = m.fill_value;
  codecs = metadatas_in m.codecs;
  attributes = option_map configuration_seen m.attributes;
  dimension_names = option_map names_seen m.dimension_names;
  additional = configuration_seen m.additional;
}

-- the name of the type of elements at a key, or the error
abbrev pub element_name_at : Option Data → Result ElementName ArrayMetadataError
element_name_at None = Err UnsupportedDataType
element_name_at (Some tree) = element_answer (name_in tree)

-- the type of elements of this name, or the error
abbrev pub data_type_of : ElementName → Result ElementType ArrayMetadataError
data_type_of name = element_answer (type_of name)

-- the fill value at a key, of a type by its name, or the error
abbrev pub fill_at : ElementName → Option Data → Result (List ℕ) ArrayMetadataError
fill_at name tree = ok_or (option_and_then (fill_of name) tree) InvalidFillValue

-- The metadata that an object says, or the first error: it is one of an array, and has each key that it has to have; then those of its keys, in this order; at last that of keys that aren't known.
abbrev pub array_in : Members → Result ArrayMetadata ArrayMetadataError
array_in members = do
  _ ← is_of_array members
  shape ← array_shape_at (get_member (codes "shape") members)
  element_name ← element_name_at (get_member (codes "data_type") members)
  data_type ← data_type_of element_name
  chunk_shape ← chunk_shape_at (length shape) (get_member (codes "chunk_grid") members)
  chunk_key_encoding ← chunk_key_encoding_at (get_member (codes "chunk_key_encoding") members)
  fill_value ← fill_at element_name (get_member (codes "fill_value") members)
  codecs ← codec_list_at (get_member (codes "codecs") members)
  others ← others_in (length shape) members
  Ok (record {
    shape = shape;
    element_name = element_name;
    data_type = data_type;
    chunk_shape = chunk_shape;
    chunk_key_encoding = chunk_key_encoding;
    fill_value = fill_value;
    codecs = codecs;
    attributes = others.attributes;
    dimension_names = others.dimension_names;
    additional = others.additional;
  })

-- the metadata of a tree, which is an object, or the first error
abbrev pub array_of : Data → Result ArrayMetadata ArrayMetadataError
array_of tree = do
  members ← ok_or (as_object tree) NotAnObject
  array_in members

-- the metadata of a text, which is one JSON value, or the first error
abbrev pub array_in_text : List ℕ → Result ArrayMetadata ArrayMetadataError
array_in_text text = do
  tree ← ok_or (read text) NotJson
  array_of tree
