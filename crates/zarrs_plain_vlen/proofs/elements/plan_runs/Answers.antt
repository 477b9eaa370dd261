use Rattle.std.proofs.Common.{◌^◌, get_or, arith}
use Rattle.zarrs_plain_vlen.specs.VlenRead.{element_is_there}
use Rattle.zarrs_plain_vlen.proofs.ElementBytes.{at_run, run_end_fits}
use Rattle.zarrs_plain_vlen.proofs.elements.plan_runs.Goals as goal

pub plan_run-requires-clause-ends : goal.plan_run-requires-clause-ends
plan_run-requires-clause-ends c =
    let run = get_or c.args.runs.now c.loop-first.first-index (0, 0) in
    let there = at_run (element_is_there c.args.offsets.now c.args.size) c.args.runs.now c.loop-first.first-index (0, 0) (omega arith) c.requires.there in
    run_end_fits c.args.offsets.now c.requires.rising c.args.start c.args.size run.0 run.1 (2 ^ 64) (c.requires.known c.loop-first.first-index (0, 0) (omega arith)) there c.requires.fits
