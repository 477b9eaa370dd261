-- Floats of 16 bits, as numbers, and the one nearest to a number.
-- Source: IEEE 754-2019, 3.4 and 3.6 (binary16), 4.3.1 (roundTiesToEven). bfloat16 is the same with eight bits of an exponent and seven of a fraction: the upper half of a binary32.
use Rattle.std.specs.Prelude.{ℕ, suc, ◌+◌, ◌-◌, ◌*◌, ◌/◌, ◌%◌, ◌^◌, ◌==◌, nat_lt, nat_le, Bool, Option, Some, None, if◌then◌else◌}
use Rattle.std.specs.Float.{Float, binary64, nan, inf, fin}
use Rattle.std.specs.Float.Ieee.{size, up, down, round}
use Rattle.std.specs.Float.Ieee.Nearest.{closest}
use Rattle.zarrs_half.specs.declared.half_format.HalfFormat.{HalfFormat}
use Rattle.zarrs_half.specs.declared.half_format.HalfFormat.TheVariants.{Binary16, Bfloat16}

-- how many bits of a fraction there are
abbrev pub digits_of : HalfFormat → ℕ
digits_of Binary16 = 10
digits_of Bfloat16 = 7

-- the least number above 0 is 2 to the power of minus this
abbrev pub low_of : HalfFormat → ℕ
low_of Binary16 = 24
low_of Bfloat16 = 133

-- the bits of infinity: all of the exponent's, and no other
abbrev pub infinity_of : HalfFormat → ℕ
infinity_of Binary16 = 0x7c00
infinity_of Bfloat16 = 0x7f80

-- The number that bits without a sign are, in units of the least one above 0: the fraction's, where the exponent's are 0; else with a leading one before it, and twice as much for each step of the exponent above 1.
abbrev pub units_of : HalfFormat → ℕ → ℕ
units_of format word =
    if word / 2 ^ digits_of format == 0 then word
    else (2 ^ digits_of format + word % 2 ^ digits_of format) * 2 ^ (word / 2 ^ digits_of format - 1)

-- the number that 16 bits are, which each binary64 has room for; none of infinities and of what is no number
abbrev pub half_number : HalfFormat → ℕ → Option Float
half_number format bits =
    if nat_lt (bits % 0x8000) (infinity_of format)
    then Some (round binary64 (nat_le 0x8000 bits) (units_of format (bits % 0x8000)) (2 ^ low_of format))
    else None

-- The bits without a sign of the number nearest to a / c, a tie to the even one: of its whole units the leading digits stay, with one more than the fraction has, and where they come to 2 in the next place, the exponent's next step is the carry.
abbrev pub nearest_word : HalfFormat → ℕ → ℕ → ℕ
nearest_word format a c =
    let k = size (a * 2 ^ low_of format / c) - suc (digits_of format) in
    k * 2 ^ digits_of format + closest (a * 2 ^ low_of format) (c * 2 ^ k)

-- bits with a sign
abbrev pub with_sign : Bool → ℕ → ℕ
with_sign negative word = if negative then 0x8000 + word else word

-- with their sign, where they aren't those of infinity or above
abbrev pub finite_half : HalfFormat → Bool → ℕ → Option ℕ
finite_half format negative word = if nat_lt word (infinity_of format) then Some (with_sign negative word) else None

-- the bits of the number nearest to a float, where that is no infinity
abbrev pub half_bits : HalfFormat → Float → Option ℕ
half_bits format nan = None
half_bits format (inf negative) = None
half_bits format (fin negative m e) = finite_half format negative (nearest_word format (m * up e) (down e))
