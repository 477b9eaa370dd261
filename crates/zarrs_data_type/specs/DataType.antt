-- What the parts of a data type are seen as.
use Rattle.std.specs.Prelude.{⊤}
use Rattle.zarrs_data_type.specs.ElementType.{ElementType, fixed, text, bytes, optional, IsFixedType}
use Rattle.zarrs_data_type.specs.declared.data_type.Kind.{Kind}
use Rattle.zarrs_data_type.specs.declared.data_type.Kind.TheVariants.{Fixed, Text, Bytes, Optional}

-- the type that a kind stands for
abbrev pub type_of_kind : Kind → ElementType
type_of_kind (Fixed c) = fixed c.component_size_bits c.num_components c.sign_extension
type_of_kind Text = text
type_of_kind Bytes = bytes
type_of_kind (Optional inner) = optional inner.value

-- a fixed kind has an element of at least one byte
abbrev pub IsSoundKind : Kind → Type 0
IsSoundKind (Fixed c) = IsFixedType c.component_size_bits c.num_components
IsSoundKind Text = ⊤
IsSoundKind Bytes = ⊤
IsSoundKind (Optional inner) = ⊤
