use Rattle.std.proofs.Common.{◌∙◌, ap, sym, subst}
use lib.Dec.{T}
use Rattle.zarrs_half.specs.ByPattern.{half_of_pattern}
use Rattle.zarrs_half.proofs.ByPattern.{half_by_pattern}
use Rattle.zarrs_half.proofs.half_format.HalfFormat.from_f64.Goals as goal

pub returns : goal.returns
returns c =
    record { value = c.from_pattern.ensures.value ∙ ap (half_of_pattern c.args.self) c.f64_to_bits_with_nan.ensures ∙ half_by_pattern c.args.self c.args.number (subst T (sym c.well_formed.1.0.1) tt) }
