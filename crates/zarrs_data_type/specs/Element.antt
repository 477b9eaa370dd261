-- The elements of a type.
-- Source: the Zarr v3 core specification, chunks.
use Rattle.std.specs.Prelude.{◌≡◌, ℕ, List, length, All, if◌then◌else◌}
use Rattle.zarrs_data_type.specs.ElementType.{ElementType, fixed, text, bytes, optional, element_size}
use Rattle.zarrs_data_type.specs.FillValue.{is_null, front_of}

-- An element: the bytes of one of a fixed or a variable type, or one of an optional type, absent or present.
pub data Element : Type 0 where
  plain : List ℕ → Element
  absent : Element
  present : Element → Element

-- the elements of a chunk, in row-major order
abbrev pub Chunk : Type 0
Chunk = List Element

-- The element is of the type: of a fixed type as many bytes as its size, of a variable type any bytes, of an optional type absent, or present with an element of the type inside.
abbrev pub IsElement : ElementType → Element → Type 0
IsElement (fixed width count sign) (plain items) = length items ≡ element_size width count
IsElement text (plain items) = Unit {0}
IsElement bytes (plain items) = Unit {0}
IsElement (optional type) absent = Unit {0}
IsElement (optional type) (present element) = IsElement type element
IsElement _ _ = ⊥

-- each element of the chunk is of the type
abbrev pub AreElements : ElementType → Chunk → Type 0
AreElements type chunk = All (IsElement type) chunk

-- the element that the bytes of a fill value are
abbrev pub fill_element : ElementType → List ℕ → Element
fill_element (optional type) fill = if is_null fill then absent else present (fill_element type (front_of fill))
fill_element type fill = plain fill
