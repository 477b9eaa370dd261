-- The types of elements by their names, and the types that chunks of them have.
-- Source: the Zarr v3 core specification, data types; zarr-extensions.
use Rattle.std.specs.Prelude.{ℕ, zero, suc, ◌/◌, ◌%◌, ◌==◌, ◌&&◌, nat_lt, Bool, true, false, if◌then◌else◌, Result, Ok, Err}
use Rattle.zarrs_chunk.specs.Answer.{seen}
use Rattle.zarrs_data_type.specs.ElementType.{ElementType, fixed, text, bytes, optional}
use Rattle.zarrs_fill_values.specs.declared.element_error.ElementError.{ElementError}
use Rattle.zarrs_fill_values.specs.declared.element_error.ElementError.TheVariants.{UnsupportedDataType}
use Rattle.zarrs_fill_values.specs.declared.element_name.IntegerName.{IntegerName}
use Rattle.zarrs_fill_values.specs.declared.element_name.IntegerName.TheVariants.{Int2, Int4, Int8, Int16, Int32, Int64, Uint2, Uint4, Uint8, Uint16, Uint32, Uint64}
use Rattle.zarrs_fill_values.specs.declared.element_name.FloatName.{FloatName}
use Rattle.zarrs_fill_values.specs.declared.element_name.FloatName.TheVariants.{Float16, Bfloat16, Float32, Float64}
use Rattle.zarrs_fill_values.specs.declared.element_name.PlainName.{PlainName}
use Rattle.zarrs_fill_values.specs.declared.element_name.PlainName.TheVariants as plain
use Rattle.zarrs_fill_values.specs.declared.element_name.ElementName.{ElementName}

-- how many bits a whole number has
abbrev pub integer_bits : IntegerName → ℕ
integer_bits Int2 = 2
integer_bits Int4 = 4
integer_bits Int8 = 8
integer_bits Int16 = 16
integer_bits Int32 = 32
integer_bits Int64 = 64
integer_bits Uint2 = 2
integer_bits Uint4 = 4
integer_bits Uint8 = 8
integer_bits Uint16 = 16
integer_bits Uint32 = 32
integer_bits Uint64 = 64

-- whether whole numbers of the type may be negative
abbrev pub is_signed : IntegerName → Bool
is_signed Int2 = true
is_signed Int4 = true
is_signed Int8 = true
is_signed Int16 = true
is_signed Int32 = true
is_signed Int64 = true
is_signed _ = false

-- how many bits a float has
abbrev pub float_bits : FloatName → ℕ
float_bits Float16 = 16
float_bits Bfloat16 = 16
float_bits Float32 = 32
float_bits Float64 = 64

-- raw bits are whole bytes, one at least
abbrev pub is_raw : ℕ → Bool
is_raw bits = nat_lt 0 bits && (bits % 8 == 0)

-- the type of chunks of elements of this name: the components of an element, by their bits, their count and whether they have a sign; or text, or bytes
abbrev pub plain_type : PlainName → Result ElementType ElementError
plain_type plain.Bool = Ok (fixed 1 1 false)
plain_type (plain.Integer integer) = Ok (fixed (integer_bits integer) 1 (is_signed integer))
plain_type (plain.Float float) = Ok (fixed (float_bits float) 1 false)
plain_type (plain.Complex float) = Ok (fixed (float_bits float) 2 false)
plain_type (plain.Raw bits) = if is_raw bits then Ok (fixed 8 (bits / 8) false) else Err UnsupportedDataType
plain_type plain.String = Ok text
plain_type plain.Bytes = Ok bytes

-- the type with so many optional types round it
abbrev pub optional_round : ℕ → ElementType → ElementType
optional_round zero inner = inner
optional_round (suc levels) inner = optional (optional_round levels inner)

-- the type of chunks of elements of this name, or the error
abbrev pub type_of : ElementName → Result ElementType ElementError
type_of name = seen (optional_round name.levels) (plain_type name.plain)

-- the name of a type whose elements are all there
abbrev pub plain_name : PlainName → ElementName
plain_name named = record { plain = named; levels = 0 }
