use Rattle.std.proofs.Common.{get_or, arith}
use Rattle.std.proofs.lemmas.Grind.{common_steps}
use Rattle.zarrs_array_bytes.specs.Elements.{piece}
use Rattle.zarrs_array_bytes.proofs.RunLemmas.{flat_map-take_runs, pieces_of_run}
use Rattle.zarrs_array_bytes.proofs.gather.gather_pieces.Goals as goal

pub loop-run-preserved : goal.loop-run-preserved
loop-run-preserved c =
    let run = get_or c.args.runs.now c.loop-run.run-index (0, 0) in
    let more = flat_map-take_runs (piece c.args.size c.args.bytes.now) c.args.runs.now c.loop-run.run-index c.loop-run-test.true in
    let part = pieces_of_run c.args.size c.args.bytes.now run.0 run.1 in
    grind (arith, common_steps)
