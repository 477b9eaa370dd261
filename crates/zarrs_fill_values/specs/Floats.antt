-- Fill values of floats.
-- Source: the Zarr v3 core specification, "Fill value list": a JSON number, rounded to the nearest value; or "Infinity", "-Infinity", "NaN", or "0x" and the digits of the bits as an unsigned integer.
use Rattle.std.specs.Prelude.{ℕ, ◌/◌, ◌==◌, pos, List, ◌++◌, reverse, Option, Some, None, option_map, option_and_then, codes, to_bits, from_bits, if◌then◌else◌}
use Rattle.std.specs.Float.{Float, Format, binary32, binary64, float_is_finite, round_to_format}
use Rattle.std.specs.Float.Ieee.{of_int}
use Rattle.std.specs.Result.{result_ok}
use Rattle.std.specs.Str.{bytes_eq}
use Rattle.hex.specs.Hex.{decode_sized, encode_lower}
use Rattle.serde_json.specs.Data.{Num, unsigned, negative, float, Data, null, boolean, number, string, array, object}
use Rattle.zarrs_half.specs.HalfFloats.{half_bits, half_number}
use Rattle.zarrs_half.specs.declared.half_format.HalfFormat.TheVariants as half
use Rattle.zarrs_fill_values.specs.ElementName.{float_bits}
use Rattle.zarrs_fill_values.specs.Words.{low_first, low_first_number, behind_prefix}
use Rattle.zarrs_fill_values.specs.declared.element_name.FloatName.{FloatName}
use Rattle.zarrs_fill_values.specs.declared.element_name.FloatName.TheVariants.{Float16, Bfloat16, Float32, Float64}

-- how many bytes a float has
abbrev pub float_size : FloatName → ℕ
float_size name = float_bits name / 8

-- the bits of infinity: all of the exponent's, and no other
abbrev pub infinity_word : FloatName → ℕ
infinity_word Float16 = 0x7c00
infinity_word Bfloat16 = 0x7f80
infinity_word Float32 = 0x7f80_0000
infinity_word Float64 = 0x7ff0_0000_0000_0000

-- the bits of "NaN": the sign is 0, the first bit behind the exponent's is 1, and the others are 0
abbrev pub nan_word : FloatName → ℕ
nan_word Float16 = 0x7e00
nan_word Bfloat16 = 0x7fc0
nan_word Float32 = 0x7fc0_0000
nan_word Float64 = 0x7ff8_0000_0000_0000

-- the bits of infinity below zero
abbrev pub minus_infinity_word : FloatName → ℕ
minus_infinity_word Float16 = 0xfc00
minus_infinity_word Bfloat16 = 0xff80
minus_infinity_word Float32 = 0xff80_0000
minus_infinity_word Float64 = 0xfff0_0000_0000_0000

-- the number of hex digits, the highest first, where they are those of so many bytes, no fewer and no more
abbrev pub digits_word : ℕ → List ℕ → Option ℕ
digits_word size digits = option_map (λ bytes. low_first_number (reverse bytes)) (result_ok (decode_sized digits size))

-- the bits that hex digits say
abbrev pub hex_word : FloatName → List ℕ → Option ℕ
hex_word name digits = digits_word (float_size name) digits

-- the bits that a text says
abbrev pub text_word : FloatName → List ℕ → Option ℕ
text_word name text =
    if bytes_eq text (codes "NaN") then Some (nan_word name)
    else if bytes_eq text (codes "Infinity") then Some (infinity_word name)
    else if bytes_eq text (codes "-Infinity") then Some (minus_infinity_word name)
    else option_and_then (hex_word name) (behind_prefix (codes "0x") text)

-- the float nearest to a binary64
abbrev pub nearest_to : Format → Float → Float
nearest_to binary32 x = round_to_format binary32 x
nearest_to binary64 x = x

-- The float nearest to a JSON number. One with a fraction or an exponent, and one past 64 bits, is the binary64 nearest to its text; of 16 bits each number is the binary64 nearest to it first.
abbrev pub rounded : Format → Num → Float
rounded format (unsigned n) = of_int format (pos n)
rounded format (negative z) = of_int format z
rounded format (float x) = nearest_to format x

-- the bits of a float that is no infinity
abbrev pub finite_word : Format → Float → Option ℕ
finite_word format x = if float_is_finite x then Some (to_bits format x) else None

-- the bits of the float nearest to a JSON number, where it isn't past the range
abbrev pub number_word : FloatName → Num → Option ℕ
number_word Float16 n = half_bits half.Binary16 (rounded binary64 n)
number_word Bfloat16 n = half_bits half.Bfloat16 (rounded binary64 n)
number_word Float32 n = finite_word binary32 (rounded binary32 n)
number_word Float64 n = finite_word binary64 (rounded binary64 n)

-- the bits that JSON says
abbrev pub float_word : FloatName → Data → Option ℕ
float_word name null = None
float_word name (boolean truth) = None
float_word name (number n) = number_word name n
float_word name (string text) = text_word name text
float_word name (array items) = None
float_word name (object entries) = None

-- the fill value that JSON says
abbrev pub float_fill : FloatName → Data → Option (List ℕ)
float_fill name tree = option_map (low_first (float_size name)) (float_word name tree)

-- a float that is a number
abbrev pub finite : Float → Option Float
finite x = if float_is_finite x then Some x else None

-- the number of the bits, where they are one's
abbrev pub number_of_bits : FloatName → ℕ → Option Float
number_of_bits Float16 word = half_number half.Binary16 word
number_of_bits Bfloat16 word = half_number half.Bfloat16 word
number_of_bits Float32 word = finite (from_bits binary32 word)
number_of_bits Float64 word = finite (from_bits binary64 word)

-- the text of bits: "0x" and their digits, the highest first
abbrev pub hex_text : FloatName → ℕ → List ℕ
hex_text name word = codes "0x" ++ encode_lower (reverse (low_first (float_size name) word))

-- the text of bits that are no number's
abbrev pub float_text : FloatName → ℕ → List ℕ
float_text name word =
    if word == nan_word name then codes "NaN"
    else if word == infinity_word name then codes "Infinity"
    else if word == minus_infinity_word name then codes "-Infinity"
    else hex_text name word

-- how bits are shown: as the number that they are, else as a text
abbrev pub shown_as : FloatName → ℕ → Option Float → Data
shown_as name word (Some x) = number (float x)
shown_as name word None = string (float_text name word)

-- how a float's bytes are shown
abbrev pub float_shown : FloatName → List ℕ → Data
float_shown name fill = shown_as name (low_first_number fill) (number_of_bits name (low_first_number fill))
