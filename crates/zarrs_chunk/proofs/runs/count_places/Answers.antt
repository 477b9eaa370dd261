use Rattle.std.proofs.Common.{arith}
use Rattle.zarrs_chunk.proofs.CountedRuns.{length-take_runs}
use Rattle.zarrs_chunk.proofs.runs.count_places.Goals as goal

pub loop-len-preserved : goal.loop-len-preserved
loop-len-preserved c =
    let more = length-take_runs c.args.runs.now c.loop-len.len-index (omega arith) in
    omega (arith, more, c.loop-len.invariant, c.saturating_add-count.ensures)
