use Rattle.std.proofs.Common.{arith}
use Rattle.zarrs_bytes.proofs.Scattered.{following_more}
use Rattle.zarrs_bytes.proofs.place_batches.are_scattered.Goals as goal

pub loop-index-preserved : goal.loop-index-preserved
loop-index-preserved c =
    let more = following_more c.args.places.now c.loop-index.index (omega arith) (omega arith) in
    record {
      count = omega (arith, more, c.loop-index.invariant.count, c.count_follower-joined.ensures.count);
      few = omega (arith, c.loop-index.invariant.few, c.count_follower-joined.ensures.within);
    }
