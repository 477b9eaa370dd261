-- The elements of a box, taken out of a list of all elements or put into it.
use Rattle.std.specs.Prelude.{◌≡◌, ◌==◌, ℕ, List, Vec, map, length, get_or, Result, Ok, IfOk}
use Rattle.std.specs.declared.alloc.Global.{Global}
use Rattle.zarrs_array_bytes.specs.Update.{update}
use Rattle.zarrs_chunk.specs.Answer.{◌>>=◌, demand, checked_u64, GivesBy}
use Rattle.zarrs_chunk.specs.ChunkShape.{product}
use Rattle.zarrs_chunk.specs.Region.{Region}
use Rattle.zarrs_chunk.specs.Runs.{joined_runs}
use Rattle.zarrs_chunk.specs.Selection.{subset, places_of}
use Rattle.zarrs_chunk.specs.declared.codec_error.CodecError.{CodecError}
use Rattle.zarrs_chunk.specs.declared.codec_error.CodecError.TheVariants.{InvalidBytesLength, DataMismatch}

-- a list has as many elements as a shape, or the first error: 64 bits count the shape's, and there are so many
abbrev pub checked_len : ℕ → List ℕ → Result (Unit {0}) CodecError
checked_len count sizes = do
  expected ← checked_u64 (product sizes)
  demand (count == expected) (InvalidBytesLength count expected)

-- the places of a box in a list of so many elements of a shape, or the first error: the list has as many as the shape, and the box lies inside
abbrev pub places_in_list : ℕ → List ℕ → Region → Result (List ℕ) CodecError
places_in_list count sizes box = do
  _ ← checked_len count sizes
  places_of (subset box) sizes

-- the items at these places, in their order; the default stands where there is none
abbrev pub items_at : {A : Type 0} → List A → List ℕ → A → List A
items_at items places default = map (λ place. get_or items place default) places

-- these are the items at these places, in their order; each place has one, so the default doesn't matter
abbrev pub AreItemsAt : {A : Type 0} → List A → Vec A Global → List ℕ → Type 0
AreItemsAt {A} items found places = (default : A) → found.items ≡ items_at items places default

-- the items at the places of runs are returned, in order
abbrev pub GathersRuns : {E A : Type 0} → List A → List (ℕ × ℕ) → Result (Vec A Global) E → Type 0
GathersRuns items runs result = IfOk result (λ found. AreItemsAt items found (joined_runs runs))

-- the elements of a box are returned, in row-major order, or the first error
abbrev pub Gathers : {A : Type 0} → List A → List ℕ → Region → Result (Vec A Global) CodecError → Type 0
Gathers items sizes box result = GivesBy (AreItemsAt items) result (places_in_list (length items) sizes box)

-- the list with the elements of a box replaced by the new ones, or the first error: of the places before all others, and there is a new element for each
abbrev pub with_box : {A : Type 0} → List A → List ℕ → Region → List A → Result (List A) CodecError
with_box items sizes box new = do
  places ← places_in_list (length items) sizes box
  _ ← demand (length new == length places) DataMismatch
  Ok (update items places new)
