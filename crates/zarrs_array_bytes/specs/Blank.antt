-- What is under absent elements.
use Rattle.std.specs.Prelude.{◌≡◌, ℕ, ◌<◌, true, nat_lt, List, [], length, replicate, slice_index}
use Rattle.std.specs.List.{list_all}
use Rattle.zarrs_data_type.specs.ElementType.{ElementType, fixed, text, bytes, optional, element_size}
use Rattle.zarrs_data_type.specs.Element.{Element, plain, absent}
use Rattle.zarrs_array_bytes.specs.Held.{Held, masked}
use Rattle.zarrs_array_bytes.specs.Elements.{element_at}

-- a blank element: zeros, an empty text, or an absent element
abbrev pub blank_element : ElementType → Element
blank_element (fixed width components sign) = plain (replicate (element_size width components) 0)
blank_element (optional type) = absent
blank_element type = plain []

-- a mask over elements has zeros and ones, and where a byte is 0, the element under it is blank
pub record IsOverBlanks (mask : List ℕ) (type : ElementType) (held : Held) : Type 0 where
  pub flags : list_all (λ byte. nat_lt byte 2) mask ≡ true
  pub blank : (place : ℕ) → place < length mask → slice_index mask place ≡ 0 → element_at type held place ≡ blank_element type

-- under the outermost mask, of elements that may be absent, zeros, empty bytes or absent elements stand in the place of absent ones
abbrev pub OuterAreBlank : ElementType → Held → Type 0
OuterAreBlank (optional type) (masked inner mask) = IsOverBlanks mask.items type inner
OuterAreBlank _ held = Unit {0}

-- blank elements are under those that are absent, at every depth, and masks have zeros and ones
abbrev pub AbsentAreBlank : ElementType → Held → Type 0
AbsentAreBlank (optional type) (masked inner mask) = IsOverBlanks mask.items type inner × AbsentAreBlank type inner
AbsentAreBlank _ held = Unit {0}
