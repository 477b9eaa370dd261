use Rattle.std.proofs.Common.{◌≡◌, ◌∙◌, ◌*◌, ◌%◌, ◌^◌, ap, arith}
use Rattle.std.specs.Float.{binary32, binary64, float_is_finite}
use lib.Dec.{leb}
use lib.Ieee.{of_bits, round}
use Rattle.zarrs_half.specs.HalfFloats.{units_of}
use Rattle.zarrs_half.specs.declared.half_format.HalfFormat.TheVariants.{Bfloat16}
use Rattle.zarrs_half.proofs.Numbers.{upper_half}
use Rattle.zarrs_half.proofs.NumbersAgain.{units_are_finite}
use Rattle.zarrs_half.proofs.half_format.bfloat16_number.Goals as goal

pub returns : goal.returns
returns c =
    let pattern : c.from.result * 65536 % 4294967296 ≡ c.args.bits * 2 ^ 16 = omega (arith, c.from.ensures, c.ranges.bits.fits) in
    let value : c.from-2.result ≡ round binary64 (leb 0x8000 c.args.bits) (units_of Bfloat16 (c.args.bits % 0x8000)) (2 ^ 133) =
    c.from-2.ensures ∙ c.f32_from_bits_with_nan.ensures ∙ ap (of_bits binary32) pattern ∙ upper_half c.args.bits c.requires.word in
    record {
      value = value;
      finite = ap float_is_finite value ∙ units_are_finite Bfloat16 (leb 0x8000 c.args.bits) (c.args.bits % 0x8000) c.requires.word;
    }
