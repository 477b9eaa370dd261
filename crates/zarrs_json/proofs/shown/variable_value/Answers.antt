use Rattle.std.proofs.Common.{◌+◌, arith}
use Rattle.zarrs_array_bytes.proofs.OffsetLemmas.{rising_steps, rising_last}
use Rattle.zarrs_json.proofs.shown.variable_value.Goals as goal

pub slice_bounds-hex_value-count : goal.slice_bounds-hex_value-count
slice_bounds-hex_value-count c = omega (arith, rising_steps c.args.offsets.now c.requires.rising c.args.place c.requires.inside)

pub slice_bounds-hex_value-start : goal.slice_bounds-hex_value-start
slice_bounds-hex_value-start c = omega (arith, rising_steps c.args.offsets.now c.requires.rising c.args.place c.requires.inside)

pub slice_bounds-hex_value-end : goal.slice_bounds-hex_value-end
slice_bounds-hex_value-end c =
    omega (arith, rising_last c.args.offsets.now c.requires.rising (c.args.place + 1) c.requires.inside, c.requires.ending)
