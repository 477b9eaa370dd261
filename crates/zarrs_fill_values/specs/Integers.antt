-- Fill values of whole numbers.
-- Source: the Zarr v3 core specification, "Fill value list": a JSON number with no fraction or exponent part, in the range of the type.
use Rattle.std.specs.Prelude.{ℕ, suc, ◌-◌, ◌*◌, ◌^◌, ℤ, pos, negsuc, nat_lt, Bool, List, Option, Some, None, option_map, option_and_then, if◌then◌else◌}
use Rattle.std.specs.Int.{w64, cast_unsigned}
use Rattle.serde_json.specs.Data.{Num, Data, unsigned, number}
use Rattle.serde_json.specs.Find.{as_i64, as_u64, of_integer}
use Rattle.zarrs_data_type.specs.ElementType.{component_bytes}
use Rattle.zarrs_fill_values.specs.ElementName.{integer_bits, is_signed}
use Rattle.zarrs_fill_values.specs.Words.{low_first, low_first_number, of_length}
use Rattle.zarrs_fill_values.specs.declared.element_name.IntegerName.{IntegerName}

-- how many bytes a number has: two's complement where it may be negative, with the sign in all bits above its own
abbrev pub integer_size : IntegerName → ℕ
integer_size integer = component_bytes (integer_bits integer)

-- the least distance from zero that no number of these bits and a sign has
abbrev pub half_range : IntegerName → ℕ
half_range integer = 2 ^ (integer_bits integer - 1)

-- n, or -(n + 1), where n is below the bound
abbrev pub is_within : ℕ → ℤ → Bool
is_within bound (pos n) = nat_lt n bound
is_within bound (negsuc n) = nat_lt n bound

-- a number with a sign as 64 bits, where it is in the range
abbrev pub signed_word : ℕ → ℤ → Option ℕ
signed_word bound z = if is_within bound z then Some (cast_unsigned w64 z) else None

-- a number without a sign, where it is in the range
abbrev pub unsigned_word : ℕ → ℕ → Option ℕ
unsigned_word bound n = if nat_lt n bound then Some n else None

-- a JSON number as 64 bits, where it is whole and in the range of the type
abbrev pub integer_word : IntegerName → Num → Option ℕ
integer_word integer n =
    if is_signed integer then option_and_then (signed_word (half_range integer)) (as_i64 n)
    else option_and_then (unsigned_word (2 * half_range integer)) (as_u64 n)

-- the fill value of a JSON number
abbrev pub integer_fill : IntegerName → Num → Option (List ℕ)
integer_fill integer n = option_map (low_first (integer_size integer)) (integer_word integer n)

-- the number that so many bits stand for, of which the top one is the sign
abbrev pub signed_of : ℕ → ℕ → ℤ
signed_of top n = if nat_lt n top then pos n else negsuc (2 * top - suc n)

-- a number with a sign, where it is in the range
abbrev pub signed_number : ℕ → ℤ → Option Num
signed_number bound z = if is_within bound z then Some (of_integer z) else None

-- the bit of the sign in a number's bytes
abbrev pub sign_bit : IntegerName → ℕ
sign_bit integer = 2 ^ (8 * integer_size integer - 1)

-- the JSON number of the bits in a number's bytes, where they are one of the type
abbrev pub number_of_word : IntegerName → ℕ → Option Num
number_of_word integer n =
    if is_signed integer then signed_number (half_range integer) (signed_of (sign_bit integer) n)
    else option_map unsigned (unsigned_word (2 * half_range integer) n)

-- the JSON number of a number's bytes
abbrev pub integer_shown : IntegerName → List ℕ → Option Data
integer_shown integer fill = option_map number (number_of_word integer (low_first_number fill))

-- the same of as many bytes as the type has, else none
abbrev pub integer_sized : IntegerName → List ℕ → Option Data
integer_sized integer fill = option_and_then (integer_shown integer) (of_length (integer_size integer) fill)
