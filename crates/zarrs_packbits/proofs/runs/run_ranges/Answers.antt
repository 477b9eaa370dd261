use Rattle.std.proofs.Common.{◌≡◌, ℕ, ◌<◌, get_or, arith, ap, map}
use Rattle.std.proofs.lemmas.List.{drop_more}
use Rattle.std.proofs.lemmas.List.Elements.{All-push}
use Rattle.zarrs_codec.specs.ByteSpan.{ByteSpan}
use Rattle.zarrs_packbits.specs.PartialRead.{run_end, run_start}
use Rattle.zarrs_packbits.specs.ReadPlan.{run_span}
use Rattle.zarrs_packbits.proofs.LocalLemmas.{more_spans}
use Rattle.zarrs_packbits.proofs.runs.run_ranges.Goals as goal

pub loop-start-preserved : goal.loop-start-preserved
loop-start-preserved c =
    let l = c.args.layout.now in
    let rs = c.args.runs.now in
    let i = c.loop-start.start-index in
    let r : ℕ × ℕ = get_or rs i (0, 0) in
    let u = drop_more rs i (0, 0) (omega arith) in
    let inv = c.loop-start.invariant in
    let was = c.in_ok-push-in-Some.ensures.items in
    let range = c.in-Some.range in
    let starts : range.start ≡ c.run_span-from.result.0 = ap (λ (s : ByteSpan). s.start) c.in-Some.ensures.answer in
    let ends : range.end ≡ c.run_span-from.result.1 = ap (λ (s : ByteSpan). s.end) c.in-Some.ensures.answer in
    record {
      spans_are = more_spans _ _ _ (run_start l r) (run_end l r) _ _ _ was (omega (arith, starts, c.run_span-from.ensures.start)) (omega (arith, ends, c.run_span-from.ensures.end)) inv.spans_are (ap (map (run_span l)) u);
      filled = rw was (All-push (λ (range : ByteSpan). range.start < range.end) c.loop-start.ranges.items range inv.filled (omega (arith, starts, ends, c.run_span-from.ensures.some)));
    }
