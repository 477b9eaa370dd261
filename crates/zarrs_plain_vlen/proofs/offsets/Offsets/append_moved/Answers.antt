use Rattle.std.proofs.Common.{◌+◌, ◌-◌, ◌<◌, ◌≤◌, ◌^◌, arith}
use Rattle.zarrs_plain_vlen.proofs.OffsetBytes.{all_at, moved_more}
use Rattle.zarrs_plain_vlen.proofs.offsets.Offsets.append_moved.Goals as goal

pub overflow_sub-at : goal.overflow_sub-at
overflow_sub-at c =
    all_at (λ offset. c.args.from ≤ offset) c.args.self.now c.args.first c.args.end c.loop-number.number c.at.result (omega arith) (omega arith) c.requires.known c.at.ensures.value c.requires.above

pub overflow_add-at : goal.overflow_add-at
overflow_add-at c =
    let fits = all_at (λ offset. offset - c.args.from + c.args.start < 2 ^ 64) c.args.self.now c.args.first c.args.end c.loop-number.number c.at.result (omega arith) (omega arith) c.requires.known c.at.ensures.value c.requires.fits in
    omega (arith, fits)

pub loop-number-preserved : goal.loop-number-preserved
loop-number-preserved c =
    moved_more (λ offset. offset - c.args.from + c.args.start) c.args.self.now c.args.out.now.items c.loop-number.out.items c.push.new.self.items c.args.first c.loop-number.number c.at.result (omega arith) (omega arith) c.at.ensures.value c.loop-number.invariant c.in_ok-push.ensures.items
