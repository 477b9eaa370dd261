-- The errors of arrays' metadata.
use Rattle.std.specs.Prelude.{ℕ, Bool, true, false, List, Vec, Option, Some, None, Result, Ok, Err, codes}
use Rattle.std.specs.declared.alloc.Global.{Global}
use Rattle.zarrs_chunk.specs.Answer.{Answers}
use Rattle.zarrs_fill_values.specs.declared.element_error.ElementError.{ElementError}
use Rattle.zarrs_fill_values.specs.declared.element_error.ElementError.TheVariants as element
use Rattle.zarrs_array_metadata.specs.declared.array_metadata_error.ArrayKey.{ArrayKey}
use Rattle.zarrs_array_metadata.specs.declared.array_metadata_error.ArrayKey.TheVariants as needed
use Rattle.zarrs_array_metadata.specs.declared.array_metadata_error.ArrayMetadataError.{ArrayMetadataError}
use Rattle.zarrs_array_metadata.specs.declared.array_metadata_error.ArrayMetadataError.TheVariants.{OutOfMemory, NotJson, NotAnObject, UnsupportedFormat, NotAnArray, MissingKey, InvalidShape, UnsupportedDataType, UnsupportedChunkGrid, InvalidChunkShape, ZeroSize, IncompatibleDimensionality, UnsupportedChunkKeyEncoding, InvalidSeparator, InvalidFillValue, InvalidCodecs, InvalidAttributes, UnsupportedStorageTransformers, InvalidDimensionNames, UnknownKey}

-- out of memory, which a call that allocates may return at any time
abbrev pub array_memory : ArrayMetadataError → Bool
array_memory OutOfMemory = true
array_memory _ = false

-- The answer, seen by `view`, is the expected value, or the first error; only lack of memory may come in its place.
abbrev pub ArrayAnswers : {T V : Type 0} → (T → V) → Result T ArrayMetadataError → Result V ArrayMetadataError → Type 0
ArrayAnswers view result expected = Answers array_memory view result expected

-- the same of a vector, which is seen by its items
abbrev pub ArrayItems : {A : Type 0} → Result (Vec A Global) ArrayMetadataError → Result (List A) ArrayMetadataError → Type 0
ArrayItems result expected = ArrayAnswers (λ v. v.items) result expected

-- the error of a name or a fill value, as one of an array's metadata
abbrev pub element_error : ElementError → ArrayMetadataError
element_error element.OutOfMemory = OutOfMemory
element_error element.UnsupportedDataType = UnsupportedDataType
element_error element.InvalidFillValue = InvalidFillValue

-- what is read of a name or a fill value, as a part of what is read of an array's metadata
abbrev pub element_answer : {A : Type 0} → Result A ElementError → Result A ArrayMetadataError
element_answer (Ok value) = Ok value
element_answer (Err error) = Err (element_error error)

-- the text of a key that has to be there
abbrev pub key_text : ArrayKey → List ℕ
key_text needed.Shape = codes "shape"
key_text needed.DataType = codes "data_type"
key_text needed.ChunkGrid = codes "chunk_grid"
key_text needed.ChunkKeyEncoding = codes "chunk_key_encoding"
key_text needed.FillValue = codes "fill_value"
key_text needed.Codecs = codes "codecs"

-- the name of an error, as its bytes
abbrev pub array_error_name : ArrayMetadataError → List ℕ
array_error_name OutOfMemory = codes "OutOfMemory"
array_error_name NotJson = codes "NotJson"
array_error_name NotAnObject = codes "NotAnObject"
array_error_name UnsupportedFormat = codes "UnsupportedFormat"
array_error_name NotAnArray = codes "NotAnArray"
array_error_name (MissingKey key) = codes "MissingKey"
array_error_name InvalidShape = codes "InvalidShape"
array_error_name UnsupportedDataType = codes "UnsupportedDataType"
array_error_name UnsupportedChunkGrid = codes "UnsupportedChunkGrid"
array_error_name InvalidChunkShape = codes "InvalidChunkShape"
array_error_name ZeroSize = codes "ZeroSize"
array_error_name IncompatibleDimensionality = codes "IncompatibleDimensionality"
array_error_name UnsupportedChunkKeyEncoding = codes "UnsupportedChunkKeyEncoding"
array_error_name InvalidSeparator = codes "InvalidSeparator"
array_error_name InvalidFillValue = codes "InvalidFillValue"
array_error_name InvalidCodecs = codes "InvalidCodecs"
array_error_name InvalidAttributes = codes "InvalidAttributes"
array_error_name UnsupportedStorageTransformers = codes "UnsupportedStorageTransformers"
array_error_name InvalidDimensionNames = codes "InvalidDimensionNames"
array_error_name (UnknownKey name) = codes "UnknownKey"

-- the key that an error is about, where it is about one
abbrev pub array_error_key : ArrayMetadataError → Option (List ℕ)
array_error_key OutOfMemory = None
array_error_key NotJson = None
array_error_key NotAnObject = None
array_error_key UnsupportedFormat = Some (codes "zarr_format")
array_error_key NotAnArray = Some (codes "node_type")
array_error_key (MissingKey key) = Some (key_text key)
array_error_key InvalidShape = Some (codes "shape")
array_error_key UnsupportedDataType = Some (codes "data_type")
array_error_key UnsupportedChunkGrid = Some (codes "chunk_grid")
array_error_key InvalidChunkShape = Some (codes "chunk_grid")
array_error_key ZeroSize = Some (codes "chunk_grid")
array_error_key IncompatibleDimensionality = Some (codes "chunk_grid")
array_error_key UnsupportedChunkKeyEncoding = Some (codes "chunk_key_encoding")
array_error_key InvalidSeparator = Some (codes "chunk_key_encoding")
array_error_key InvalidFillValue = Some (codes "fill_value")
array_error_key InvalidCodecs = Some (codes "codecs")
array_error_key InvalidAttributes = Some (codes "attributes")
array_error_key UnsupportedStorageTransformers = Some (codes "storage_transformers")
array_error_key InvalidDimensionNames = Some (codes "dimension_names")
array_error_key (UnknownKey name) = Some name
