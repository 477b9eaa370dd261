use Rattle.std.proofs.Common.{◌∙◌, sym, true, false}
use Rattle.zarrs_fill_values.proofs.RawNames.{raw_bits_of-none, raw_bits_of-test, raw_digits}
use Rattle.zarrs_fill_values.proofs.names.raw_bits_of.Goals as goal

pub returns-in_default : goal.returns-in_default
returns-in_default c =
    record { value = sym (raw_bits_of-none c.args.digits.now (λ bits small whole is. c.in_default.not-Ok bits (raw_digits c.args.digits.now bits c.parse_u64.result small is c.parse_u64.ensures))) }

pub returns-then-says_raw : goal.returns-then-says_raw
returns-then-says_raw c =
    record { value = sym (raw_bits_of-test c.args.digits.now c.in-Ok.bits c.parse_u64.result true c.in-Ok.is c.parse_u64.ensures (sym c.says_raw.ensures.value ∙ c.if-says_raw.true)) }

pub returns-else-says_raw : goal.returns-else-says_raw
returns-else-says_raw c =
    record { value = sym (raw_bits_of-test c.args.digits.now c.in-Ok.bits c.parse_u64.result false c.in-Ok.is c.parse_u64.ensures (sym c.says_raw.ensures.value ∙ c.if-says_raw.false)) }
