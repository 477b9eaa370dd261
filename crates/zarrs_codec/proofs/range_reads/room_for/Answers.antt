use Rattle.std.proofs.Common.{◌≡◌, ◌∙◌, nat_le, true, arith}
use Rattle.std.proofs.lemmas.Bool.Decides.{nat_tests}
use Rattle.zarrs_codec.proofs.RangeLemmas.{ends_inside, more_ranges}
use Rattle.zarrs_codec.proofs.range_reads.room_for.Goals as goal

pub loop-range-preserved : goal.loop-range-preserved
loop-range-preserved c =
    let ranges = c.args.ranges.now in
    let i = c.loop-range.range-index in
    let range = c.range-item.result in
    let more = more_ranges ranges i range (omega arith) c.range-item.is in
    let inside : nat_le range.end c.args.len ≡ true = grind (arith, nat_tests, c.if-end-len.false, c.end.ensures.value) in
    record {
      ends = c.loop-range.invariant.ends ∙ ends_inside c.args.len ranges i range (omega arith) c.range-item.is inside;
      room = omega (arith, more, c.loop-range.invariant.room, c.saturating_add-room.ensures, c.end-in-loop-range.ensures.value, c.start.ensures.value);
    }
