-- The bytes of elements, each component in a byte order.
use Rattle.std.specs.Prelude.{ℕ, nat_le, Bool, true, Option, Some, None, List, [], map}
use Rattle.std.specs.List.{concat}
use Rattle.zarrs_data_type.specs.Element.{Element, plain, Chunk}
use Rattle.zarrs_data_type.specs.ElementType.{component_bytes}
use Rattle.zarrs_data_type.specs.declared.endianness.Endianness.{Endianness}
use Rattle.zarrs_data_type.specs.declared.endianness.Endianness.TheVariants.{Little, Big}
use Rattle.zarrs_array_bytes.specs.Turned.{reversed_pieces}

-- An element's bytes with its components in the byte order: as they are for little, each component turned round for big. In memory each component has its lowest byte first, so the same step leads from memory to a value and back.
abbrev pub bytes_in_order : Option Endianness → ℕ → ℕ → List ℕ → List ℕ
bytes_in_order (Some Big) width components bytes = reversed_pieces (component_bytes width) components bytes
bytes_in_order order width components bytes = bytes

-- a component has a byte order, or one byte at most and so needs none
abbrev pub has_order : Option Endianness → ℕ → Bool
has_order None width = nat_le (component_bytes width) 1
has_order (Some order) width = true

-- the bytes of a plain element; none of any other
abbrev pub bytes_of : Element → List ℕ
bytes_of (plain bytes) = bytes
bytes_of element = []

-- the bytes of a chunk's elements in order, each component in the byte order
abbrev pub spelled_chunk : Option Endianness → ℕ → ℕ → Chunk → List ℕ
spelled_chunk order width components chunk =
    concat (map (λ element. bytes_in_order order width components (bytes_of element)) chunk)
