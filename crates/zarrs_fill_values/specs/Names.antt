-- The texts of names of types whose elements are all there.
-- Source: the Zarr v3 core specification, data types; zarr-extensions.
use Rattle.std.specs.Prelude.{ℕ, ◌^◌, ◌&&◌, ◌++◌, nat_lt, List, Option, Some, None, codes, decimal, option_map, option_and_then, if◌then◌else◌}
use Rattle.std.specs.Str.{bytes_eq}
use Rattle.std.specs.Str.Parse.{digits_value}
use Rattle.zarrs_fill_values.specs.ElementName.{is_raw}
use Rattle.zarrs_fill_values.specs.Words.{behind_prefix}
use Rattle.zarrs_fill_values.specs.declared.element_name.IntegerName.{IntegerName}
use Rattle.zarrs_fill_values.specs.declared.element_name.IntegerName.TheVariants.{Int2, Int4, Int8, Int16, Int32, Int64, Uint2, Uint4, Uint8, Uint16, Uint32, Uint64}
use Rattle.zarrs_fill_values.specs.declared.element_name.FloatName.{FloatName}
use Rattle.zarrs_fill_values.specs.declared.element_name.FloatName.TheVariants.{Float16, Bfloat16, Float32, Float64}
use Rattle.zarrs_fill_values.specs.declared.element_name.PlainName.{PlainName}
use Rattle.zarrs_fill_values.specs.declared.element_name.PlainName.TheVariants as plain

-- the name of raw bits: r, and how many bits in decimal digits
abbrev pub raw_text : ℕ → List ℕ
raw_text bits = codes "r" ++ decimal bits

-- how many bits decimal digits say: a number below 2^64 that is written so, and is whole bytes, one at least
abbrev pub raw_bits_of : List ℕ → Option ℕ
raw_bits_of digits =
    let bits = digits_value 10 digits in
    if nat_lt bits (2 ^ 64) && is_raw bits && bytes_eq digits (decimal bits) then Some bits else None

-- how many bits a name of raw bits says
abbrev pub raw_bits_in : List ℕ → Option ℕ
raw_bits_in name = option_and_then raw_bits_of (behind_prefix (codes "r") name)

-- the name of whole numbers
abbrev pub integer_text : IntegerName → List ℕ
integer_text Int2 = codes "int2"
integer_text Int4 = codes "int4"
integer_text Int8 = codes "int8"
integer_text Int16 = codes "int16"
integer_text Int32 = codes "int32"
integer_text Int64 = codes "int64"
integer_text Uint2 = codes "uint2"
integer_text Uint4 = codes "uint4"
integer_text Uint8 = codes "uint8"
integer_text Uint16 = codes "uint16"
integer_text Uint32 = codes "uint32"
integer_text Uint64 = codes "uint64"

-- the name of floats
abbrev pub float_text : FloatName → List ℕ
float_text Float16 = codes "float16"
float_text Bfloat16 = codes "bfloat16"
float_text Float32 = codes "float32"
float_text Float64 = codes "float64"

-- the name of complex numbers, by the floats that they have two of
abbrev pub complex_text : FloatName → List ℕ
complex_text Float16 = codes "complex_float16"
complex_text Bfloat16 = codes "complex_bfloat16"
complex_text Float32 = codes "complex64"
complex_text Float64 = codes "complex128"

-- the name of a type: the first one where it has two
abbrev pub text_of : PlainName → List ℕ
text_of plain.Bool = codes "bool"
text_of (plain.Integer integer) = integer_text integer
text_of (plain.Float float) = float_text float
text_of (plain.Complex float) = complex_text float
text_of (plain.Raw bits) = raw_text bits
text_of plain.String = codes "string"
text_of plain.Bytes = codes "bytes"

-- the whole numbers of a name
abbrev pub integer_named : List ℕ → Option IntegerName
integer_named name =
    if bytes_eq name (codes "int2") then Some Int2
    else if bytes_eq name (codes "int4") then Some Int4
    else if bytes_eq name (codes "int8") then Some Int8
    else if bytes_eq name (codes "int16") then Some Int16
    else if bytes_eq name (codes "int32") then Some Int32
    else if bytes_eq name (codes "int64") then Some Int64
    else if bytes_eq name (codes "uint2") then Some Uint2
    else if bytes_eq name (codes "uint4") then Some Uint4
    else if bytes_eq name (codes "uint8") then Some Uint8
    else if bytes_eq name (codes "uint16") then Some Uint16
    else if bytes_eq name (codes "uint32") then Some Uint32
    else if bytes_eq name (codes "uint64") then Some Uint64
    else None

-- the type of a name that is no whole number's: complex numbers of 32 and 64 bits have two names each, and so have bytes
abbrev pub other_named : List ℕ → Option PlainName
other_named name =
    if bytes_eq name (codes "bool") then Some plain.Bool
    else if bytes_eq name (codes "float16") then Some (plain.Float Float16)
    else if bytes_eq name (codes "bfloat16") then Some (plain.Float Bfloat16)
    else if bytes_eq name (codes "float32") then Some (plain.Float Float32)
    else if bytes_eq name (codes "float64") then Some (plain.Float Float64)
    else if bytes_eq name (codes "complex64") then Some (plain.Complex Float32)
    else if bytes_eq name (codes "complex_float32") then Some (plain.Complex Float32)
    else if bytes_eq name (codes "complex128") then Some (plain.Complex Float64)
    else if bytes_eq name (codes "complex_float64") then Some (plain.Complex Float64)
    else if bytes_eq name (codes "complex_float16") then Some (plain.Complex Float16)
    else if bytes_eq name (codes "complex_bfloat16") then Some (plain.Complex Bfloat16)
    else if bytes_eq name (codes "string") then Some plain.String
    else if bytes_eq name (codes "bytes") then Some plain.Bytes
    else if bytes_eq name (codes "variable_length_bytes") then Some plain.Bytes
    else option_map plain.Raw (raw_bits_in name)

-- the integer type where there is one, else the other type
abbrev pub integer_or : Option IntegerName → Option PlainName → Option PlainName
integer_or (Some integer) other = Some (plain.Integer integer)
integer_or None other = other

-- the type of a name
abbrev pub plain_named : List ℕ → Option PlainName
plain_named name = integer_or (integer_named name) (other_named name)
