-- What a data type is seen as, and what follows from it.
-- Source: the Zarr v3 core specification, data types; zarr-extensions.
use Rattle.std.specs.Prelude.{◌≡◌, ℕ, zero, suc, ◌+◌, ◌*◌, ◌/◌, ◌^◌, ◌<◌, Bool, true, false, Option, Some, None, Result, Ok, cond, ◌==◌, nat_lt, ◌&&◌}
use Rattle.std.proofs.Common.{refl, ap}
use Rattle.std.specs.Coded.{Coded, code_by, coded×, coded_ℕ, coded_bool}
use Rattle.zarrs_chunk.specs.declared.codec_error.CodecError.{CodecError}
use Rattle.zarrs_chunk.specs.declared.codec_error.CodecError.TheVariants.{BitRange, Overflow}
use Rattle.zarrs_chunk.specs.Answer.{◌>>=◌, demand}
use Rattle.zarrs_data_type.specs.declared.components.Components.{Components}

-- A type of elements: of a fixed size, with the bits of a component, the components of an element and whether they have a sign; text or bytes of any length; or elements that may be absent.
pub data ElementType : Type 0 where
  fixed : ℕ → ℕ → Bool → ElementType
  text : ElementType
  bytes : ElementType
  optional : ElementType → ElementType

-- how many bytes a component of so many bits has
abbrev pub component_bytes : ℕ → ℕ
component_bytes width = (width + 7) / 8

-- how many bytes an element of so many components has
abbrev pub element_size : ℕ → ℕ → ℕ
element_size width count = count * component_bytes width

-- how many bytes an element has, where the type is fixed
abbrev pub fixed_size_of : ElementType → Option ℕ
fixed_size_of (fixed width count sign) = Some (element_size width count)
fixed_size_of text = None
fixed_size_of bytes = None
fixed_size_of (optional type) = None

-- the components of an element, where the type is fixed
abbrev pub components_of : ElementType → Option Components
components_of (fixed width count sign) =
    Some (record { component_size_bits = width; num_components = count; sign_extension = sign })
components_of text = None
components_of bytes = None
components_of (optional type) = None

-- whether an element is bytes of any length
abbrev pub is_variable : ElementType → Bool
is_variable text = true
is_variable bytes = true
is_variable type = false

-- the type inside, where the type is optional: that of the elements that are present
abbrev pub inner_of : ElementType → Option ElementType
inner_of (optional type) = Some type
inner_of type = None

-- a fixed type has a bit in each component, a component in each element, and fewer than 2^64 bytes in an element
pub record IsFixedType (width count : ℕ) : Type 0 where
  pub bits : 0 < width
  pub components : 0 < count
  pub size : element_size width count < 2 ^ 64

-- the type of elements of `count` components of `width` bits, or the first error
abbrev pub components_type : ℕ → ℕ → Bool → Result ElementType CodecError
components_type width count sign = do
  _ ← demand (nat_lt 0 width && nat_lt 0 count) BitRange
  _ ← demand (nat_lt (element_size width count) (2 ^ 64)) Overflow
  Ok (fixed width count sign)

-- how many optional types stand one in another, before the type inside is none
abbrev pub optional_levels : ElementType → ℕ
optional_levels (fixed width count sign) = 0
optional_levels text = 0
optional_levels bytes = 0
optional_levels (optional type) = optional_levels type + 1

-- A type as plain numbers: how many optional types stand one in another; which type stands inside, 0 fixed, 1 text, 2 bytes; and of a fixed one its width, count and sign.
abbrev TypeNumbers : Type 0
TypeNumbers = ℕ × (ℕ × (ℕ × (ℕ × Bool)))

-- the plain numbers of a type
abbrev pub numbers_of_type : ElementType → TypeNumbers
numbers_of_type (fixed width count sign) = (0, (0, (width, (count, sign))))
numbers_of_type text = (0, (1, (0, (0, false))))
numbers_of_type bytes = (0, (2, (0, (0, false))))
numbers_of_type (optional type) = (suc (numbers_of_type type).0, (numbers_of_type type).1)

-- the type inside all optional ones, of its numbers
abbrev innermost_of_numbers : ℕ × (ℕ × (ℕ × Bool)) → ElementType
innermost_of_numbers n = cond (n.0 == 0) (fixed n.1.0 n.1.1.0 n.1.1.1) (cond (n.0 == 1) text bytes)

-- the type with so many optional types round it
abbrev optional_times : ℕ → ElementType → ElementType
optional_times zero type = type
optional_times (suc levels) type = optional (optional_times levels type)

-- the type of its numbers
abbrev pub type_of_numbers : TypeNumbers → ElementType
type_of_numbers n = optional_times n.0 (innermost_of_numbers n.1)

-- a type's numbers give the type back
pub type_of_numbers-numbers_of_type : (type : ElementType) → type_of_numbers (numbers_of_type type) ≡ type
type_of_numbers-numbers_of_type (fixed width count sign) = refl
type_of_numbers-numbers_of_type text = refl
type_of_numbers-numbers_of_type bytes = refl
type_of_numbers-numbers_of_type (optional type) = ap optional (type_of_numbers-numbers_of_type type)

-- types of different numbers differ
abbrev pub type_code : Coded ElementType
type_code =
    code_by TypeNumbers (coded× coded_ℕ (coded× coded_ℕ (coded× coded_ℕ (coded× coded_ℕ coded_bool)))) numbers_of_type type_of_numbers type_of_numbers-numbers_of_type
