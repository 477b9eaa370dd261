-- What `squeeze` means.
-- Source: codec.zarrs.dev, `squeeze`.
use Rattle.std.specs.Prelude.{◌≡◌, ℕ, true, ⊤, List, Result, Ok, Some, None}
use Rattle.zarrs_array_to_array.specs.ArrayMeaning.{ArrayMeaning, BoxMap}
use Rattle.zarrs_array_to_array.specs.Squeeze.{squeezed}
use Rattle.zarrs_array_to_array.specs.SqueezeCount.{squeeze_asks_as_many}
use Rattle.zarrs_array_to_array.specs.SqueezedBoxes.{squeeze_asked, squeezed_region}
use Rattle.zarrs_chunk.specs.declared.codec_error.CodecError.{CodecError}
use Rattle.zarrs_codec.specs.CoordinateMap.{CoordinateMap, same_places}
use Rattle.zarrs_metadata.specs.CodecMetadata.{squeeze_name}
use Rattle.zarrs_metadata.specs.SqueezeConfiguration.{write_squeeze}

-- the sizes above one, under which each place stays
abbrev pub squeeze_coordinates : List ℕ → Result CoordinateMap CodecError
squeeze_coordinates sizes = Ok (same_places (squeezed sizes))

-- both the chunk and the box lose the axes of size one
abbrev pub squeeze_box : BoxMap
squeeze_box sizes region = (squeezed sizes, squeezed_region sizes region)

-- what `squeeze` means
abbrev pub squeeze_meaning : ArrayMeaning
squeeze_meaning = record {
  Sound = ⊤;
  takes = λ type. Ok tt;
  coordinates = squeeze_coordinates;
  sizes_before = λ sizes. Ok None;
  asked = λ sizes encoded selection. squeeze_asked sizes selection;
  asks_as_many = λ sizes encoded. squeeze_asks_as_many sizes;
  keeps_places = true;
  boxes = Some squeeze_box;
  part = same_places;
  Encodes = λ type sizes held result. result ≡ Ok held;
  Decodes = λ type sizes held result. result ≡ Ok held;
  name = squeeze_name;
  configuration = write_squeeze;
}
