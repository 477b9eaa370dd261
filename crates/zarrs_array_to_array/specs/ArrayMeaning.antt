-- What an array-to-array codec means, as one record.
use Rattle.std.specs.Prelude.{◌≡◌, ℕ, Bool, List, length, Option, Result, Ok}
use Rattle.zarrs_array_bytes.specs.Held.{Held}
use Rattle.zarrs_chunk.specs.Region.{Region}
use Rattle.zarrs_chunk.specs.Selection.{Selection, bounds_of, tuples_of}
use Rattle.zarrs_chunk.specs.declared.codec_error.CodecError.{CodecError}
use Rattle.zarrs_codec.specs.CoordinateMap.{CoordinateMap}
use Rattle.zarrs_data_type.specs.ElementType.{ElementType}
use Rattle.zarrs_metadata.specs.Data.{Members}

-- where a box of a chunk of some sizes goes: the sizes of the moved chunk, and the box there
abbrev pub BoxMap : Type 0
BoxMap = List ℕ → Region → List ℕ × Region

-- what a call answers of a container for a chunk of this type and these sizes
abbrev pub Moving : Type 1
Moving = ElementType → List ℕ → Held → Result Held CodecError → Type 0

-- What the codec is made of holds to what its type does; which types it accepts; what it does to chunks of some sizes, or the first error; the sizes of a decoded chunk, where those of the moved one fix them; what is asked for of a chunk of the second sizes where one of the first is selected, as many tuples as are selected; whether each place stays where it is; where boxes go, and none where other axes make them no boxes; what it does to the elements of a box, as a chunk of the box's own lengths, where places don't stay; what `encode` and `decode` give of a container; the name and the members of the configuration that are written.
pub record ArrayMeaning : Type 1 where
  pub Sound : Type 0
  pub takes : ElementType → Result (Unit {0}) CodecError
  pub coordinates : List ℕ → Result CoordinateMap CodecError
  pub sizes_before : List ℕ → Result (Option (List ℕ)) CodecError
  pub asked : List ℕ → List ℕ → Selection → Selection
  pub asks_as_many : (sizes encoded : List ℕ) (selection : Selection) → bounds_of selection sizes ≡ Ok tt → length (tuples_of (asked sizes encoded selection)) ≡ length (tuples_of selection)
  pub keeps_places : Bool
  pub boxes : Option BoxMap
  pub part : List ℕ → CoordinateMap
  pub Encodes : Moving
  pub Decodes : Moving
  pub name : List ℕ
  pub configuration : Members
