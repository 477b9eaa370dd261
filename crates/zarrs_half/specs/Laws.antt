-- What holds of each float of 16 bits.
use Rattle.std.specs.Prelude.{◌≡◌, ◌<◌, ℕ, Some}
use Rattle.std.specs.Float.{Float}
use Rattle.zarrs_half.specs.HalfFloats.{half_number, half_bits}
use Rattle.zarrs_half.specs.declared.half_format.HalfFormat.{HalfFormat}

-- the number that 16 bits are has these bits, whether it is -0, or so small that it has no leading one
abbrev pub NumbersComeBack : Type 0
NumbersComeBack = (format : HalfFormat) (bits : ℕ) (number : Float) → bits < 65536 → half_number format bits ≡ Some number → half_bits format number ≡ Some bits
