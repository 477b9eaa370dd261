use Rattle.std.proofs.Common.{◌≡◌, ◌+◌, ◌-◌, ◌++◌, get_or, take, drop, ap, ◌∙◌, arith}
use Rattle.zarrs_grid.proofs.RunReads.{run_read}
use Rattle.zarrs_grid.proofs.gather.gather_runs.Goals as goal

pub loop-run-preserved : goal.loop-run-preserved
loop-run-preserved g c =
    let i = c.loop-run.run-index in
    let whole = c.args.whole.now in
    let runs = c.args.runs.now in
    let found = c.loop-run.found.items in
    let run = get_or runs i (0, 0) in
    let count : run.0 + run.1 - run.0 ≡ run.1 = omega arith in
    let pushed =
    ◌∙◌ {b = found ++ take (run.0 + run.1 - run.0) (drop run.0 whole)} (c.in_ok-extend_from_slice.ensures {u = tt}).items
    (ap (λ n. found ++ take n (drop run.0 whole)) count) in
    λ default. ◌∙◌ {b = found ++ take run.1 (drop run.0 whole)} pushed
    (run_read whole found runs i default c.loop-run-test.true c.requires.inside (c.loop-run.invariant default))
