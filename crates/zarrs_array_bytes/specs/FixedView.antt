-- What a view of an array's elements is seen as, into which those of a chunk are written.
-- Source: zarrs, `ArrayBytesFixedDisjointView`.
use Rattle.std.specs.Prelude.{ℕ, ◌*◌, ◌^◌, ◌==◌, nat_lt, List, length, Result, Ok}
use Rattle.zarrs_chunk.specs.Answer.{◌>>=◌, demand}
use Rattle.zarrs_chunk.specs.ChunkShape.{product}
use Rattle.zarrs_chunk.specs.Region.{Region}
use Rattle.zarrs_chunk.specs.Selection.{subset, places_of}
use Rattle.zarrs_chunk.specs.declared.codec_error.CodecError.{CodecError}
use Rattle.zarrs_chunk.specs.declared.codec_error.CodecError.TheVariants.{Overflow, InvalidBytesLength, TargetMismatch}
use Rattle.zarrs_array_bytes.specs.Update.{pieces_update}

-- the bytes of the array's elements, in row-major order; how many bytes an element has; how many elements the array has; and the places of those that are written, in order
pub record FixedView : Type 0 where
  pub bytes : List ℕ
  pub element_size : ℕ
  pub count : ℕ
  pub places : List ℕ

-- the view of a subset of an array's elements, or the first error
abbrev pub fixed_view : List ℕ → ℕ → List ℕ → Region → Result FixedView CodecError
fixed_view bytes size sizes region = do
  _ ← demand (nat_lt 0 size) TargetMismatch
  places ← places_of (subset region) sizes
  _ ← demand (nat_lt (product sizes * size) (2 ^ 64)) Overflow
  _ ← demand (length bytes == product sizes * size) (InvalidBytesLength (length bytes) (product sizes * size))
  Ok (record { bytes = bytes; element_size = size; count = product sizes; places = places })

-- the bytes with the elements at the view's places replaced by the new ones, in order
abbrev pub written_bytes : FixedView → List ℕ → List ℕ
written_bytes view new = pieces_update view.element_size view.count view.bytes view.places new

-- the view with its elements replaced by the new ones
abbrev pub written_view : FixedView → List ℕ → FixedView
written_view view new = record view { bytes = written_bytes view new }

-- how many bytes the view's elements have
abbrev pub view_length : FixedView → ℕ
view_length view = length view.places * view.element_size

-- there is one new element for each of the view's places, else the error
abbrev pub elements_fit : FixedView → List ℕ → Result (Unit {0}) CodecError
elements_fit view new = demand (length new == view_length view) TargetMismatch
