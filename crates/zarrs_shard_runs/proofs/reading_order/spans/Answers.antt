use Rattle.std.proofs.Common.{◌+◌, ◌<◌, ◌≤◌, ℕ, get_or, length, arith, ◌∙◌}
use Rattle.std.proofs.lemmas.List.{get_or_default, length-set}
use Rattle.std.proofs.lemmas.List.Elements.{All-set}
use Rattle.zarrs_shard_runs.specs.CutRuns.{cells}
use Rattle.zarrs_shard_runs.specs.declared.cut_runs.CutRun.{CutRun}
use Rattle.zarrs_shard_runs.proofs.SpanSteps.{cells_counted, cells_within, spans_more}
use Rattle.zarrs_shard_runs.proofs.reading_order.spans.Goals as goal

pub overflow_add-at : goal.overflow_add-at
overflow_add-at c =
    let zero : CutRun = record { number = 0; start = 0; len = 0; index = 0 } in
    let within = cells_within c.args.sorted.now c.loop-cut.cut-index zero (omega arith) in
    omega (arith, within, c.loop-cut.invariant.counted, c.requires.fits)

pub loop-cut-preserved : goal.loop-cut-preserved
loop-cut-preserved c =
    let sorted = c.args.sorted.now in
    let n = c.loop-cut.cut-index in
    let zero : CutRun = record { number = 0; start = 0; len = 0; index = 0 } in
    let it = get_or sorted n zero in
    let here : n < length sorted = omega arith in
    let within = cells_within sorted n zero here in
    let more = cells_counted sorted n zero here in
    let inside : c.loop-cut.at + it.len ≤ length (cells sorted) = omega (arith, within, c.loop-cut.invariant.counted) in
    record {
      counted = omega (arith, more, c.loop-cut.invariant.counted);
      long = length-set c.loop-cut.spans.items it.index (c.loop-cut.at, it.len) ∙ c.loop-cut.invariant.long;
      spans = spans_more sorted c.loop-cut.spans.items n c.loop-cut.at it c.requires.indexed c.loop-cut.invariant.long here (λ d. get_or_default sorted n zero d here) c.loop-cut.invariant.counted c.loop-cut.invariant.spans;
      inside = All-set (λ (run : ℕ × ℕ). run.0 + run.1 ≤ length (cells sorted)) c.loop-cut.spans.items it.index (c.loop-cut.at, it.len) inside c.loop-cut.invariant.inside;
    }
