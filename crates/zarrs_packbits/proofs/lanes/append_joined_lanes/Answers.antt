use Rattle.std.proofs.Common.{◌*◌, ◌≤◌, length, arith}
use Rattle.std.proofs.Math.Nat.{mul-le-mul_left, div-mul-le_self}
use Rattle.zarrs_packbits.proofs.lanes.append_joined_lanes.Goals as goal
use Rattle.zarrs_packbits.specs.PackedLayout.{layout_components}
use Rattle.zarrs_packbits.specs.WrittenBits.{written_bits}
use Rattle.zarrs_packbits.proofs.LaneLemmas.{joined_step, word_inside}

pub overflow_mul-group : goal.overflow_mul-group
overflow_mul-group c =
    let l = c.args.layout.now in
    let held = word_inside (layout_components l) c.loop-group.group c.args.lanes l.size c.args.width (length c.args.bytes.now) c.requires.len c.requires.size c.requires.lanes c.loop-group-test.true in
    omega (arith, held.1, c.requires.len, c.requires.layout.bytes_fit)

pub read_within-taken-requires-clause-inside : goal.read_within-taken-requires-clause-inside
read_within-taken-requires-clause-inside c =
    let l = c.args.layout.now in
    (word_inside (layout_components l) c.loop-group.group c.args.lanes l.size c.args.width (length c.args.bytes.now) c.requires.len c.requires.size c.requires.lanes c.loop-group-test.true).1

pub overflow_mul-result : goal.overflow_mul-result
overflow_mul-result c =
    let l = c.args.layout.now in
    let some : 1 ≤ l.size = omega (arith, c.requires.layout.size, c.requires.layout.some) in
    let row : layout_components l * 1 ≤ layout_components l * l.size = mul-le-mul_left (layout_components l) some in
    omega (arith, div-mul-le_self (layout_components l) c.args.lanes, c.requires.layout.bytes_fit)

pub loop-group-preserved : goal.loop-group-preserved
loop-group-preserved c =
    let l = c.args.layout.now in
    let group = c.loop-group.group in
    let lanes = c.args.lanes in
    let within = (word_inside (layout_components l) group lanes l.size c.args.width (length c.args.bytes.now) c.requires.len c.requires.size c.requires.lanes c.loop-group-test.true).0 in
    record {
      bits = joined_step l (layout_components l) group lanes c.args.width c.read_within-taken.result c.joined_word-kept.result (written_bits c.args.out.now.items c.args.word c.args.filled) (written_bits c.loop-group.out.items c.loop-group.last c.loop-group.used) (written_bits c.append_bits.new.out.items c.in_ok-more.more c.in_ok-more.reached) c.args.bytes.now
          c.requires.len c.requires.size c.requires.lanes within (omega (arith, c.requires.layout.size, c.requires.size)) c.loop-group.invariant.bits c.in_ok-more.ensures.bits c.joined_word-kept.ensures.bits c.read_within-taken.ensures.bits;
      reached = record { room = c.in_ok-more.ensures.room; fits = c.in_ok-more.ensures.word };
    }
