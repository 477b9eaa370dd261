use Rattle.std.proofs.Common.{arith}
use Rattle.zarrs_array_to_array.proofs.Steps.{factor_fits}
use Rattle.zarrs_array_to_array.proofs.transpose.strides.put_strides.Goals as goal

pub overflow_mul-step : goal.overflow_mul-step
overflow_mul-step c =
    let fits = factor_fits c.args.sizes.now c.loop-axis.axis c.loop-axis.step c.loop-axis-test.true c.loop-axis.invariant.axes c.requires.positive c.loop-axis.invariant.step in
    omega (arith, fits)
