-- What the array-to-array codecs of a chain do, one after another.
use Rattle.std.specs.Prelude.{ℕ, List, [], ◌∷◌, Result, Ok, IfOk, map}
use Rattle.zarrs_chunk.specs.Answer.{◌>>=◌}
use Rattle.zarrs_chunk.specs.declared.codec_error.CodecError.{CodecError}
use Rattle.zarrs_data_type.specs.ElementType.{ElementType}
use Rattle.zarrs_codec.specs.CoordinateMap.{CoordinateMap, IsCoordinateMap, same_places, composition}
use Rattle.zarrs_array_to_array.specs.ArrayToArrayCodec.{ArrayMapping, coordinates}
use Rattle.zarrs_array_to_array.specs.CodecAnswers.{type_taken}
use Rattle.zarrs_array_to_array.specs.Mapping.{mapping_of}
use Rattle.zarrs_array_to_array.specs.declared.array_to_array_codec.ArrayToArrayCodec.{ArrayToArrayCodec}

-- where a codec takes elements of a chunk of this type and these sizes, or the first cause of an error: the type, then the sizes
abbrev pub codec_map : ElementType → ArrayMapping → List ℕ → Result CoordinateMap CodecError
codec_map type codec sizes = do
  _ ← type_taken codec type
  coordinates codec sizes

-- where the codecs take them, one after another
abbrev pub arrays_map : ElementType → List ArrayMapping → List ℕ → Result CoordinateMap CodecError
arrays_map type [] sizes = Ok (same_places sizes)
arrays_map type (codec ∷ codecs) sizes = do
  first ← codec_map type codec sizes
  rest ← arrays_map type codecs first.encoded
  Ok (composition first rest)

-- what they do is a coordinate map, where they take such chunks
abbrev pub IsMapWhere : ElementType → List ArrayMapping → List ℕ → Type 0
IsMapWhere type codecs sizes = IfOk (arrays_map type codecs sizes) (λ m. IsCoordinateMap sizes m)

-- what the given codecs do to chunks of this type and these sizes, or the first cause of an error
abbrev pub map_through : ElementType → List ArrayToArrayCodec → List ℕ → Result CoordinateMap CodecError
map_through type codecs sizes = arrays_map type (map mapping_of codecs) sizes

-- what the given codecs do is a coordinate map, where they take such chunks
abbrev pub IsMapThrough : ElementType → List ArrayToArrayCodec → List ℕ → Type 0
IsMapThrough type codecs sizes = IsMapWhere type (map mapping_of codecs) sizes
