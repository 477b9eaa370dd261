use Rattle.std.proofs.Common.{arith}
use Rattle.zarrs_array_bytes.proofs.RunLemmas.{length-take_runs}
use Rattle.zarrs_array_bytes.proofs.runs.count_places.Goals as goal

pub loop-run-preserved : goal.loop-run-preserved
loop-run-preserved c =
    let more = length-take_runs c.args.runs.now c.loop-run.run-index c.loop-run-test.true in
    record { told = omega (arith, more); small = omega arith }
