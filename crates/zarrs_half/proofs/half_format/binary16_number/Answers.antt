use Rattle.std.proofs.Common.{◌≡◌, ◌∙◌, ◌<◌, ◌^◌, ap, ap₂}
use Rattle.std.specs.Float.{binary64, float_is_finite}
use lib.Ieee.{mul, of_int, round}
use lib.IntN.{pos}
use Rattle.zarrs_half.specs.HalfFloats.{units_of}
use Rattle.zarrs_half.specs.declared.half_format.HalfFormat.TheVariants.{Binary16}
use Rattle.zarrs_half.proofs.Numbers.{units_are}
use Rattle.zarrs_half.proofs.NumbersAgain.{units_are_finite}
use Rattle.zarrs_half.proofs.half_format.binary16_number.Goals as goal

pub returns : goal.returns
returns c =
    let value : lib.Ieee.mul binary64 c.nearest_u64_to_f64.result c.binary16_least.result ≡ round binary64 c.args.is_negative (units_of Binary16 c.args.word) (2 ^ 24) =
    ap₂ (mul binary64) c.nearest_u64_to_f64.ensures c.binary16_least.ensures.value
    ∙ units_are c.args.is_negative c.binary16_units.result c.binary16_units.ensures.few
    ∙ ap (λ n. round binary64 c.args.is_negative n (2 ^ 24)) c.binary16_units.ensures.value in
    record { value = value; finite = ap float_is_finite value ∙ units_are_finite Binary16 c.args.is_negative c.args.word c.requires.word }
