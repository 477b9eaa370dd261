-- What a call leaves in the caller's buffers.
use Rattle.std.specs.Prelude.{◌≡◌, ◌⊎◌, ℕ, nat_le, nat_lt, if◌then◌else◌, List, [], ◌∷◌, ◌++◌, length, Result, Ok, min, ◌^◌, ◌-◌}
use Rattle.zarrs_data_type.specs.Element.{Chunk}
use Rattle.zarrs_data_type.specs.ElementType.{ElementType}
use Rattle.zarrs_array_bytes.specs.Held.{Held}
use Rattle.zarrs_array_bytes.specs.Tight.{IsTight}
use Rattle.zarrs_array_bytes.specs.Update.{with_items_at}
use Rattle.zarrs_array_bytes.specs.Validity.{Holds}
use Rattle.zarrs_codec.specs.declared.bytes_representation.BytesRepresentation.{BytesRepresentation}
use Rattle.zarrs_codec.specs.declared.bytes_representation.BytesRepresentation.TheVariants.{FixedSize, BoundedSize, UnboundedSize}
use Rattle.zarrs_c_calls.specs.Buffers.{Buffers, Room, crossed, have_room, room, with_fronts}
use Rattle.zarrs_c_calls.specs.Codes.{IsRefusal}
use Rattle.zarrs_c_calls.specs.declared.cause.Cause.{Cause}
use Rattle.zarrs_c_calls.specs.declared.sizes.Sizes.{Sizes}

-- ---- bytes

-- The call returns these bytes: they are at the front of the buffer, and the code is 0; or the buffer is too short and stays as it was, and the code is 1. The number of bytes is returned in either case.
pub record ToldBytes (bytes : List ℕ) (code : ℕ) (old new : List ℕ) (needed : ℕ) : Type 0 where
  pub code_is : code ≡ (if nat_le (length bytes) (length old) then 0 else 1)
  pub buffer_is : new ≡ (if nat_le (length bytes) (length old) then with_items_at old 0 bytes else old)
  pub needed_is : needed ≡ length bytes

-- a name, with a zero behind it where a buffer of so many bytes has room for one
abbrev pub ended : List ℕ → ℕ → List ℕ
ended name room = if nat_lt (length name) room then name ++ 0 ∷ [] else name

-- The call returns a name: it is at the front of the buffer, with a zero behind it where there is room, and the code is 0; or the buffer is too short for the name and stays as it was, and the code is 1. The number of the name's bytes is returned in either case.
pub record ToldName (name : List ℕ) (code : ℕ) (old new : List ℕ) (needed : ℕ) : Type 0 where
  pub code_is : code ≡ (if nat_le (length name) (length old) then 0 else 1)
  pub buffer_is : new ≡ (if nat_le (length name) (length old) then with_items_at old 0 (ended name (length old)) else old)
  pub needed_is : needed ≡ length name

-- The call returns the bytes that are due; or it fails, and leaves the buffer and the count as they were.
abbrev pub TellsBytes : Result (List ℕ) Cause → ℕ → List ℕ → List ℕ → ℕ → ℕ → Type 0
TellsBytes expected code old new needed_old needed_new =
    ((bytes : List ℕ) × (expected ≡ Ok bytes) × ToldBytes bytes code old new needed_new)
    ⊎ (IsRefusal expected code × (new ≡ old) × (needed_new ≡ needed_old))

-- ---- elements

-- a chunk's elements, or some of them, and of which type they are
abbrev pub Elements : Type 0
Elements = ElementType × Chunk

-- The container holds these elements, and is tight: its offsets begin at 0 and end at the length of its bytes, its mask bytes are 0 and 1, and blank elements stand under absent ones. So they fix its bytes.
pub record HoldsThese (held : Held) (elements : Elements) : Type 0 where
  pub holds : Holds elements.0 held elements.1
  pub tight : IsTight elements.0 held

-- The call returns a container: its parts are at the front of the buffers, and the code is 0; or a buffer is too short and all stay as they were, and the code is 1. The number of items of each part is returned in either case; of mask bytes 2^64 - 1 where they are more.
pub record ToldParts (parts : Buffers) (code : ℕ) (old new : Buffers) (needed : Sizes) : Type 0 where
  pub code_is : code ≡ (if have_room old parts then 0 else 1)
  pub buffers_are : new ≡ (if have_room old parts then with_fronts old parts else old)
  pub needed_is : needed ≡ record { masks = min (length parts.masks) (2 ^ 64 - 1); offsets = length parts.offsets; bytes = length parts.bytes }

-- The call returns a container of the elements that are due; or it fails, and leaves the buffers and the counts as they were.
abbrev pub TellsElements : Result Elements Cause → ℕ → Room → Room → Type 0
TellsElements expected code old new =
    ((elements : Elements) × (held : Held) × (expected ≡ Ok elements) × HoldsThese held elements × ToldParts (crossed held) code old.parts new.parts new.needed)
    ⊎ (IsRefusal expected code × (new.parts ≡ old.parts) × (new.needed ≡ old.needed))

-- the same of elements of one size, which stand in the buffer of bytes alone: the others stay, whatever they are
abbrev pub TellsSized : Result Elements Cause → ℕ → List ℕ → List ℕ → Sizes → Sizes → Type 0
TellsSized expected code old new needed_old needed_new =
    (masks offsets : List ℕ) → TellsElements expected code (room masks offsets old needed_old) (room masks offsets new needed_new)

-- ---- representations

-- 0 where a value has just so many bytes, 1 where at most so many, 2 where any number
abbrev pub kind_of : BytesRepresentation → ℕ
kind_of (FixedSize size) = 0
kind_of (BoundedSize size) = 1
kind_of UnboundedSize = 2

-- how many; 0 where any number
abbrev pub size_of : BytesRepresentation → ℕ
size_of (FixedSize size) = size
size_of (BoundedSize size) = size
size_of UnboundedSize = 0

-- The call returns the representation that is due, and the code is 0; or it fails, and leaves both numbers as they were.
abbrev pub TellsRepresented : Result BytesRepresentation Cause → ℕ → ℕ → ℕ → ℕ → ℕ → Type 0
TellsRepresented expected code kind_old kind_new size_old size_new =
    ((r : BytesRepresentation) × (expected ≡ Ok r) × (code ≡ 0) × (kind_new ≡ kind_of r) × (size_new ≡ size_of r))
    ⊎ (IsRefusal expected code × (kind_new ≡ kind_old) × (size_new ≡ size_old))
