-- What `reshape` means.
-- Source: zarr-extensions, `reshape`.
use Rattle.std.specs.Prelude.{◌≡◌, ℕ, true, List, map, Result, Ok, None}
use Rattle.std.proofs.Common.{◌∙◌}
use Rattle.std.proofs.lemmas.List.{length-map}
use Rattle.zarrs_array_to_array.specs.ArrayMeaning.{ArrayMeaning}
use Rattle.zarrs_array_to_array.specs.Reshape.{reshaped}
use Rattle.zarrs_chunk.specs.Answer.{◌>>=◌}
use Rattle.zarrs_chunk.specs.Indices.{tuple_of_number}
use Rattle.zarrs_chunk.specs.Selection.{Selection, indices, tuples_of}
use Rattle.zarrs_chunk.specs.Tuples.{row_major}
use Rattle.zarrs_chunk.specs.declared.codec_error.CodecError.{CodecError}
use Rattle.zarrs_codec.specs.CoordinateMap.{CoordinateMap, same_places}
use Rattle.zarrs_metadata.specs.CodecMetadata.{reshape_name}
use Rattle.zarrs_metadata.specs.Dims.{Dim, is_reshape}
use Rattle.zarrs_metadata.specs.ReshapeConfiguration.{write_reshape}

-- other sizes, under which each place stays
abbrev pub reshape_coordinates : List Dim → List ℕ → Result CoordinateMap CodecError
reshape_coordinates dims sizes = do
  encoded ← reshaped dims sizes
  Ok (same_places encoded)

-- the tuples of the same numbers
abbrev pub reshape_asked : List ℕ → List ℕ → Selection → Selection
reshape_asked sizes encoded selection =
    indices (map (tuple_of_number encoded) (map (row_major sizes) (tuples_of selection)))

-- What `reshape` to these sizes means. It makes no box of a box: it gives the chunk other axes.
abbrev pub reshape_meaning : List Dim → ArrayMeaning
reshape_meaning dims = record {
  Sound = is_reshape dims ≡ true;
  takes = λ type. Ok tt;
  coordinates = reshape_coordinates dims;
  sizes_before = λ sizes. Ok None;
  asked = reshape_asked;
  asks_as_many = λ sizes encoded selection inside. length-map (map (row_major sizes) (tuples_of selection)) (tuple_of_number encoded) ∙ length-map (tuples_of selection) (row_major sizes);
  keeps_places = true;
  boxes = None;
  part = same_places;
  Encodes = λ type sizes held result. result ≡ Ok held;
  Decodes = λ type sizes held result. result ≡ Ok held;
  name = reshape_name;
  configuration = write_reshape dims;
}
