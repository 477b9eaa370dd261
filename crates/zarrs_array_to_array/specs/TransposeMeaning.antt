-- What `transpose` means.
-- Source: the Zarr v3 codec `transpose`.
use Rattle.std.specs.Prelude.{◌≡◌, ℕ, ◌==◌, not, is_some, true, false, List, map, length, Result, Ok, Some}
use Rattle.std.proofs.lemmas.List.{length-map}
use Rattle.zarrs_array_bytes.specs.Validity.{Holds}
use Rattle.zarrs_array_to_array.specs.ArrayMeaning.{ArrayMeaning, BoxMap}
use Rattle.zarrs_array_to_array.specs.Orders.{permuted}
use Rattle.zarrs_array_to_array.specs.Transpose.{transposition}
use Rattle.zarrs_array_to_array.specs.TransposeCodec.{transposed_back_sizes, transpose_encoded, transpose_decoded}
use Rattle.zarrs_array_to_array.specs.declared.transpose.transpose_codec.TheConstants.{TRANSPOSE}
use Rattle.zarrs_chunk.specs.Answer.{◌>>=◌, demand, seen, GivesBy}
use Rattle.zarrs_chunk.specs.Region.{Region}
use Rattle.zarrs_chunk.specs.Selection.{Selection, indices, tuples_of}
use Rattle.zarrs_chunk.specs.declared.codec_error.CodecError.{CodecError}
use Rattle.zarrs_chunk.specs.declared.codec_error.CodecError.TheVariants.{IncompatibleDimensionality, UnsupportedDataType}
use Rattle.zarrs_codec.specs.CoordinateMap.{CoordinateMap}
use Rattle.zarrs_data_type.specs.ElementType.{ElementType, inner_of}
use Rattle.zarrs_metadata.specs.CodecMetadata.{transpose_name}
use Rattle.zarrs_metadata.specs.Orders.{is_order}
use Rattle.zarrs_metadata.specs.TransposeConfiguration.{write_transpose}

-- elements of all types but optional ones
abbrev pub transpose_type : ElementType → Result (Unit {0}) CodecError
transpose_type type = demand (not (is_some (inner_of type))) (UnsupportedDataType TRANSPOSE)

-- the order's transposition, where it has as many axes as there are sizes
abbrev pub transpose_coordinates : List ℕ → List ℕ → Result CoordinateMap CodecError
transpose_coordinates order sizes = do
  _ ← demand (length order == length sizes) IncompatibleDimensionality
  Ok (transposition order sizes)

-- the selected tuples, each in this order of axes
abbrev pub transpose_asked : List ℕ → Selection → Selection
transpose_asked order selection = indices (map (permuted order) (tuples_of selection))

-- the box with its axes in this order
abbrev pub permuted_region : List ℕ → Region → Region
permuted_region order region = record { starts = permuted order region.starts; lengths = permuted order region.lengths }

-- both the chunk's axes and the box's are in this order
abbrev pub transpose_box : List ℕ → BoxMap
transpose_box order sizes region = (permuted order sizes, permuted_region order region)

-- what `transpose` with this order means
abbrev pub transpose_meaning : List ℕ → ArrayMeaning
transpose_meaning order = record {
  Sound = is_order order ≡ true;
  takes = transpose_type;
  coordinates = transpose_coordinates order;
  sizes_before = λ sizes. seen (λ decoded. Some decoded) (transposed_back_sizes order sizes);
  asked = λ sizes encoded selection. transpose_asked order selection;
  asks_as_many = λ sizes encoded selection inside. length-map (tuples_of selection) (permuted order);
  keeps_places = false;
  boxes = Some (transpose_box order);
  part = transposition order;
  Encodes = λ type sizes held result. GivesBy (Holds type) result (transpose_encoded order type sizes held);
  Decodes = λ type sizes held result. GivesBy (Holds type) result (transpose_decoded order type sizes held);
  name = transpose_name;
  configuration = write_transpose order;
}
