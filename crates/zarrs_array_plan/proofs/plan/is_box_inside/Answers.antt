use Rattle.std.proofs.Common.{◌+◌, ◌<◌, get_or, arith, sym}
use Rattle.zarrs_chunk.proofs.Inside.{is_box_inside-all, is_box_inside-not}
use Rattle.zarrs_array_plan.proofs.plan.is_box_inside.Goals as goal
use Rattle.zarrs_array_plan.proofs.plan.is_box_inside.Goals.{then-start-size-via-then-start-size, then-start-size-via-else-start-size+then-lengths-axis}

pub returns-then-start-size : goal.returns-then-start-size
returns-then-start-size c =
    let past : get_or c.args.sizes.now c.loop-axis.axis 0 < get_or c.args.starts.now c.loop-axis.axis 0 + get_or c.args.lengths.now c.loop-axis.axis 0
    = elim c.then-start-size.branch [
      | then-start-size-via-then-start-size w ↦ omega arith
      | then-start-size-via-else-start-size+then-lengths-axis w ↦ omega arith
    ] in
    record { value = sym (is_box_inside-not c.args.sizes.now c.args.starts.now c.args.lengths.now c.loop-axis.axis (omega arith) past) }

pub returns : goal.returns
returns c =
    record { value = sym (is_box_inside-all c.args.sizes.now c.args.starts.now c.args.lengths.now c.requires.starts c.requires.lengths (λ k l. c.loop-axis.invariant k (omega arith))) }
