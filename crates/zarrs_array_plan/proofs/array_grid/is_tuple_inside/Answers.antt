use Rattle.std.proofs.Common.{arith, sym}
use Rattle.zarrs_chunk.proofs.Inside.{is_tuple_inside-all, is_tuple_inside-not, is_tuple_inside-axes}
use Rattle.zarrs_array_plan.proofs.array_grid.is_tuple_inside.Goals as goal

pub returns-then-tuple-sizes : goal.returns-then-tuple-sizes
returns-then-tuple-sizes c = record { value = sym (is_tuple_inside-axes c.args.sizes.now c.args.tuple.now (λ e. omega arith)) }

pub returns-then-tuple-axis : goal.returns-then-tuple-axis
returns-then-tuple-axis c =
    record { value = sym (is_tuple_inside-not c.args.sizes.now c.args.tuple.now c.loop-axis.axis (omega arith) (omega arith)) }

pub returns : goal.returns
returns c =
    record { value = sym (is_tuple_inside-all c.args.sizes.now c.args.tuple.now (omega arith) (λ k l. c.loop-axis.invariant k (omega arith))) }
