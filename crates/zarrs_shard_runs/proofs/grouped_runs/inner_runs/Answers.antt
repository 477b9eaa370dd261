use Rattle.std.proofs.Common.{◌<◌, get_or, length, arith, ap, sym, ◌++◌, ◌∙◌}
use Rattle.zarrs_chunk.proofs.BoxTuples.{flat_map-take_more}
use Rattle.zarrs_shard_runs.specs.CutRuns.{places_of_cut}
use Rattle.zarrs_shard_runs.specs.declared.cut_runs.CutRun.{CutRun}
use Rattle.zarrs_shard_runs.proofs.grouped_runs.inner_runs.Goals as goal

pub loop-cut-preserved : goal.loop-cut-preserved
loop-cut-preserved c =
    let cuts = c.args.cuts.now in
    let index = c.loop-cut.cut-index in
    let zero : CutRun = record { number = 0; start = 0; len = 0; index = 0 } in
    let here : index < length cuts = omega arith in
    record {
      places = c.in_ok-append_run.ensures.places ∙ ap (λ ns. ns ++ places_of_cut (get_or cuts index zero)) c.loop-cut.invariant.places ∙ sym (flat_map-take_more places_of_cut cuts index zero here);
      filled = c.in_ok-append_run.ensures.filled (c.requires.filled index zero here) c.loop-cut.invariant.filled;
      inside = λ limit h. c.in_ok-append_run.ensures.below limit (h index zero here) (c.loop-cut.invariant.inside limit h);
      apart = c.in_ok-append_run.ensures.apart c.loop-cut.invariant.apart;
    }
