-- The float of 16 bits nearest to a binary64, by the bits of the latter.
use Rattle.std.specs.Prelude.{ℕ, ◌+◌, ◌-◌, ◌*◌, ◌/◌, ◌%◌, ◌^◌, ◌==◌, nat_le, min, Option, if◌then◌else◌}
use Rattle.std.specs.Float.Ieee.Nearest.{closest}
use Rattle.zarrs_half.specs.HalfFloats.{digits_of, low_of, finite_half}
use Rattle.zarrs_half.specs.declared.half_format.HalfFormat.{HalfFormat}

-- the least number of a format above 0 is the least binary64 above 0, doubled so many times
abbrev pub above_least : HalfFormat → ℕ
above_least format = 1074 - low_of format

-- The bits without a sign of the number nearest to a significand that is doubled so many times, in units of the least binary64: k steps of the exponent, and the significand without its lowest places. From 54 places on nothing is left.
abbrev pub word_of : HalfFormat → ℕ → ℕ → ℕ
word_of format significand doublings =
    let k = 52 + doublings - (above_least format + digits_of format) in
    k * 2 ^ digits_of format + closest significand (2 ^ min (above_least format + k - doublings) 54)

-- the significand of a pattern without a sign
abbrev pub significand_of : ℕ → ℕ
significand_of pattern = if pattern / 2 ^ 52 == 0 then pattern else 2 ^ 52 + pattern % 2 ^ 52

-- the bits of the number nearest to the binary64 of this pattern
abbrev pub half_of_pattern : HalfFormat → ℕ → Option ℕ
half_of_pattern format pattern =
    finite_half format (nat_le (2 ^ 63) pattern) (word_of format (significand_of (pattern % 2 ^ 63)) (pattern % 2 ^ 63 / 2 ^ 52 - 1))
