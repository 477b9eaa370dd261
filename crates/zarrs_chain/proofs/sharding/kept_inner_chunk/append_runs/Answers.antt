use Rattle.std.proofs.Common.{get_or, arith}
use Rattle.std.proofs.lemmas.Grind.{common_steps}
use Rattle.zarrs_chain.proofs.KeptInner.{run_more}
use Rattle.zarrs_chain.proofs.sharding.kept_inner_chunk.append_runs.Goals as goal

pub loop-run-preserved : goal.loop-run-preserved
loop-run-preserved c =
    let run = get_or c.args.runs.now c.loop-run.run-index (0, 0) in
    let more = run_more c.args.size c.args.bytes.now c.args.start c.args.runs.now c.loop-run.run-index c.loop-run-test.true in
    grind (arith, common_steps)
