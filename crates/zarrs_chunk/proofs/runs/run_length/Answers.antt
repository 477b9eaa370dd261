use Rattle.std.proofs.Common.{◌≡◌, ◌+◌, ◌-◌, get_or, arith}
use Rattle.zarrs_chunk.proofs.Consecutive.{run_more}
use Rattle.zarrs_chunk.proofs.runs.run_length.Goals as goal

pub loop-index-preserved : goal.loop-index-preserved
loop-index-preserved c =
    let places = c.args.places.now in
    let next : get_or places c.loop-index.index 0 ≡ get_or places (c.loop-index.index - 1) 0 + 1 = c.follows.ensures.value.0 c.if-not-follows.false in
    run_more places c.loop-index.index (omega arith) (omega arith) c.loop-index.invariant next
