-- What a target is seen as, into which a chunk is decoded: a view of the elements, and one for each mask over them.
-- Source: zarrs, `decode_into`.
use Rattle.std.specs.Prelude.{◌≡◌, ℕ, ◌*◌, ◌==◌, ◌&&◌, Bool, true, false, List, [], ◌∷◌, length, Result}
use Rattle.zarrs_chunk.specs.Answer.{◌>>=◌, demand}
use Rattle.zarrs_chunk.specs.declared.codec_error.CodecError.{CodecError}
use Rattle.zarrs_chunk.specs.declared.codec_error.CodecError.TheVariants.{UnsupportedTarget, TargetMismatch}
use Rattle.zarrs_data_type.specs.ElementType.{ElementType, fixed, text, bytes, optional, element_size}
use Rattle.zarrs_data_type.specs.Element.{Chunk}
use Rattle.zarrs_array_bytes.specs.Tight.{IsTight}
use Rattle.zarrs_array_bytes.specs.FixedView.{FixedView, written_view}
use Rattle.zarrs_array_bytes.specs.Held.{Held, flen, vlen, masked}
use Rattle.zarrs_array_bytes.specs.Parts.{bytes_in, inner_in}
use Rattle.zarrs_array_bytes.specs.Validity.{Holds}

-- the view of the elements; those of the masks, the outermost first
pub record DecodeTarget : Type 0 where
  pub values : FixedView
  pub masks : List FixedView

-- the elements of the type, under their masks, are of one size
abbrev pub has_one_size : ElementType → Bool
has_one_size (fixed width components sign) = true
has_one_size text = false
has_one_size bytes = false
has_one_size (optional type) = has_one_size type

-- the view is one of so many elements of this size
abbrev pub takes_elements : FixedView → ℕ → ℕ → Bool
takes_elements view size count = (view.element_size == size) && (length view.places == count)

-- there is a view for each level of the type, of so many elements: for each mask one of a byte for each, and one of the elements under them
abbrev pub levels_taken : ElementType → ℕ → List FixedView → FixedView → Bool
levels_taken (fixed width components sign) count [] values = takes_elements values (element_size width components) count
levels_taken (optional type) count (mask ∷ masks) values = takes_elements mask 1 count && levels_taken type count masks values
levels_taken _ count masks values = false

-- the target accepts a chunk of so many elements of the type, or the first error
abbrev pub target_fit : ElementType → ℕ → DecodeTarget → Result (Unit {0}) CodecError
target_fit type count target = do
  _ ← demand (has_one_size type) UnsupportedTarget
  demand (levels_taken type count target.masks target.values) TargetMismatch

-- the views of masks, with the mask bytes of a container written into them, level by level
abbrev pub written_masks : List FixedView → Held → List FixedView
written_masks [] held = []
written_masks (mask ∷ masks) held = written_view mask (bytes_in held) ∷ written_masks masks (inner_in held)

-- what is under so many masks as there are views
abbrev pub under_views : List FixedView → Held → Held
under_views [] held = held
under_views (mask ∷ masks) held = under_views masks (inner_in held)

-- the target with a container's elements and mask bytes written at the views' places, in order; all other bytes are the old ones
abbrev pub written_target : DecodeTarget → Held → DecodeTarget
written_target target held = record {
  values = written_view target.values (bytes_in (under_views target.masks held));
  masks = written_masks target.masks held;
}

-- a container has elements of one size, as many bytes of them as the view's elements
abbrev pub has_values : FixedView → Held → Bool
has_values values (flen raw) = length raw.items == length values.places * values.element_size
has_values values (vlen raw offsets) = false
has_values values (masked inner flags) = false

-- a container has a mask for each view, of as many bytes as the view's elements
abbrev pub has_masks : List FixedView → Held → Bool
has_masks [] held = true
has_masks (mask ∷ masks) (masked inner flags) = (length flags.items == length mask.places * mask.element_size) && has_masks masks inner
has_masks (mask ∷ masks) held = false

-- a container has for each view of a target as many bytes as the view's elements
abbrev pub fills : DecodeTarget → Held → Bool
fills target held = has_masks target.masks held && has_values target.values (under_views target.masks held)

-- what the target was and is: it was written with a container that holds the chunk and is fixed by it
pub record TargetHolds (type : ElementType) (before after : DecodeTarget) (chunk : Chunk) : Type 0 where
  pub held : Held
  pub holds : Holds type held chunk
  pub written : after ≡ written_target before held
  pub tight : IsTight type held
