use Rattle.std.proofs.Common.{◌<◌, get_or, length, arith, ap, sym, ◌++◌, ◌∙◌}
use Rattle.std.specs.List.{range_with_len}
use Rattle.zarrs_chunk.proofs.CountedRuns.{joined_runs-take_more}
use Rattle.zarrs_shard_runs.proofs.reading_order.join_neighbours.Goals as goal

pub loop-start-preserved : goal.loop-start-preserved
loop-start-preserved c =
    let runs = c.args.runs.now in
    let index = c.loop-start.start-index in
    let here : index < length runs = omega arith in
    record {
      places = c.in_ok-append_run.ensures.places ∙ ap (λ ns. ns ++ range_with_len (get_or runs index (0, 0)).0 (get_or runs index (0, 0)).1) c.loop-start.invariant.places ∙ sym (joined_runs-take_more runs index here);
      below = λ limit h. c.in_ok-append_run.ensures.below limit (h index (0, 0) here) (c.loop-start.invariant.below limit h);
      apart = c.in_ok-append_run.ensures.apart c.loop-start.invariant.apart;
    }
