-- A part's elements put among a region's, and taken out of them: elements of so many bytes each, joined in row-major order.
use Rattle.std.specs.Prelude.{◌≡◌, ◌⊎◌, ℕ, ◌==◌, List, Vec, length, ok_or, Result, Ok}
use Rattle.std.specs.declared.alloc.Global.{Global}
use Rattle.zarrs_array_bytes.specs.FixedView.{FixedView, fixed_view, view_length}
use Rattle.zarrs_array_bytes.specs.Pieces.{pieces_at}
use Rattle.zarrs_array_bytes.specs.Update.{pieces_update}
use Rattle.zarrs_chunk.specs.Answer.{◌>>=◌, demand, seen}
use Rattle.zarrs_chunk.specs.ChunkShape.{product, shape_of}
use Rattle.zarrs_chunk.specs.Runs.{places_in}
use Rattle.zarrs_chunk.specs.declared.codec_error.CodecError.TheVariants.{TargetMismatch}
use Rattle.zarrs_array_calls.specs.ArraysGiven.{part_given}
use Rattle.zarrs_array_calls.specs.Refusals.{grid_answer, RefusesWith}
use Rattle.zarrs_array_calls.specs.declared.refusal.ArrayRefusal.{ArrayRefusal}
use Rattle.zarrs_array_calls.specs.declared.refusal.ArrayRefusal.TheVariants.{ZeroSize, Codec}

-- what a region's bytes are seen as with the runs of some elements, each of `size`
abbrev pub runs_view : List ℕ → ℕ → List ℕ → Vec (ℕ × ℕ) Global → FixedView
runs_view bytes size sizes runs = record { bytes = bytes; element_size = size; count = product sizes; places = places_in runs }

-- the places of a part's elements among the bytes of a region of these lengths, or the first error: no length is zero, since a region without elements has no parts; there are a part's numbers; an element has a byte, the part lies in the region, 64 bits count the region's elements and bytes, and there are as many bytes; and as many of the part's elements
abbrev pub part_places : ℕ → List ℕ → List ℕ → List ℕ → ℕ → Result (List ℕ) ArrayRefusal
part_places size lengths numbers region part_bytes = do
  shape ← ok_or (shape_of lengths) ZeroSize
  part ← part_given (length lengths) numbers
  view ← grid_answer (fixed_view region size shape part)
  _ ← demand (part_bytes == view_length view) (Codec TargetMismatch)
  Ok view.places

-- the region's bytes, with the part's elements replaced by the new ones; or the first error
abbrev pub part_put : ℕ → List ℕ → List ℕ → List ℕ → List ℕ → Result (List ℕ) ArrayRefusal
part_put size lengths numbers new region =
    seen (λ places. pieces_update size (product lengths) region places new) (part_places size lengths numbers region (length new))

-- the part's elements out of the region's bytes, which fill a buffer of so many bytes; or the first error
abbrev pub part_taken : ℕ → List ℕ → List ℕ → List ℕ → ℕ → Result (List ℕ) ArrayRefusal
part_taken size lengths numbers region room = seen (λ places. pieces_at size region places) (part_places size lengths numbers region room)

-- The call has filled the buffer with the bytes that are due, and returns 0; or it fails, and leaves the buffer as it was.
abbrev pub FillsBuffer : Result (List ℕ) ArrayRefusal → ℕ → List ℕ → List ℕ → Type 0
FillsBuffer expected code old new = ((expected ≡ Ok new) × (code ≡ 0)) ⊎ (RefusesWith expected code × (new ≡ old))
