use Rattle.std.proofs.Common.{arith}
use Rattle.zarrs_codec.proofs.RangeLemmas.{more_ranges}
use Rattle.zarrs_lent_handles.proofs.ahead_handle.ranges_len.Goals as goal

pub loop-range-preserved : goal.loop-range-preserved
loop-range-preserved c =
    let more = more_ranges c.args.ranges.now c.loop-range.range-index c.range-item.result (omega arith) c.range-item.is in
    record { len = omega (arith, more, c.loop-range.invariant.len, c.saturating_add-len.ensures, c.end.ensures.value, c.start.ensures.value) }
