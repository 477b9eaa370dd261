use Rattle.std.proofs.Common.{◌<◌, ◌≤◌, arith}
use Rattle.zarrs_codec.proofs.Fences.{inside_fence}
use Rattle.zarrs_codec.proofs.testing.fenced_handle.fence_end.Goals as goal

pub returns-then-byte-end : goal.returns-then-byte-end
returns-then-byte-end c =
    let below : c.args.byte < c.end-then-byte-end.result = omega (arith, c.end.ensures.value, c.end-then-byte-end.ensures.value, c.if-byte-end.true) in
    let starts : c.range-item.result.start ≤ c.args.byte = omega (arith, c.start.ensures.value, c.if-start-byte.true) in
    record {
      end = (below, inside_fence c.args.ranges.now c.range-item.result c.loop-range.range-index c.args.byte c.end-then-byte-end.result c.loop-range-test.true c.range-item.is starts c.end-then-byte-end.ensures.value);
    }
