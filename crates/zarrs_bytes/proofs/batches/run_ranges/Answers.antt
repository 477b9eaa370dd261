use Rattle.std.proofs.Common.{◌≡◌, ◌+◌, ◌*◌, ◌<◌, ◌≤◌, get_or, arith, ap}
use Rattle.std.proofs.Math.Nat.{mul-le-mul_left}
use Rattle.std.proofs.lemmas.List.Elements.{All-push}
use Rattle.zarrs_codec.specs.ByteSpan.{ByteSpan}
use Rattle.zarrs_bytes.proofs.Ranges.{ranges_more, spans_more}
use Rattle.zarrs_bytes.proofs.batches.run_ranges.Goals as goal

pub loop-start-preserved : goal.loop-start-preserved
loop-start-preserved c =
    let run = get_or c.args.runs.now c.loop-start.start-index (0, 0) in
    let range = c.in-Some.range in
    let start : range.start ≡ run.0 * c.args.size = ap (λ (s : ByteSpan). s.start) c.in-Some.ensures.answer in
    let end : range.end ≡ run.0 * c.args.size + run.1 * c.args.size = ap (λ (s : ByteSpan). s.end) c.in-Some.ensures.answer in
    let positive : 0 < (get_or c.args.runs.now c.loop-start.start-index (0, 0)).1 = c.requires.filled c.loop-start.start-index (0, 0) (omega arith) in
    let one : 1 ≤ c.args.size = omega arith in
    let grows : run.1 * 1 ≤ run.1 * c.args.size = mul-le-mul_left run.1 one in
    rw c.in_ok-push-in-Some.ensures.items (record {
      bytes = ranges_more c.args.size c.args.runs.now c.loop-start.start-index (0, 0) c.loop-start.ranges.items range (omega arith) c.loop-start.invariant.bytes start end;
      filled = All-push (λ (range : ByteSpan). range.start < range.end) c.loop-start.ranges.items range c.loop-start.invariant.filled (omega (arith, start, end, grows, positive));
      each = spans_more c.args.size c.args.runs.now c.loop-start.start-index (0, 0) c.loop-start.ranges.items range (omega arith) c.loop-start.invariant.each start end;
    })
