use Rattle.std.proofs.Common.{arith}
use Rattle.zarrs_fill_values.proofs.LowBytes.{short_power, byte_small}
use Rattle.zarrs_fill_values.proofs.words.above_byte.Goals as goal

pub overflow_mul-result : goal.overflow_mul-result
overflow_mul-result c = omega (arith, short_power c.args.size c.args.above c.requires.size c.requires.above)

pub overflow_add-result : goal.overflow_add-result
overflow_add-result c = omega (arith, short_power c.args.size c.args.above c.requires.size c.requires.above, c.ranges.first)

pub returns-clause-small : goal.returns-clause-small
returns-clause-small c = omega (arith, byte_small c.args.size c.args.above c.requires.above, c.ranges.first)
