use Rattle.zarrs_packbits.proofs.lanes.append_spread_lanes.Goals as goal
use Rattle.zarrs_packbits.specs.Bits.{bits_of}
use Rattle.zarrs_packbits.specs.WrittenBits.{written_bits}
use Rattle.zarrs_packbits.proofs.LaneLemmas.{spread_step}

pub loop-group-preserved : goal.loop-group-preserved
loop-group-preserved c = record {
  bits = spread_step c.args.layout c.args.at c.loop-group.group c.args.lanes c.read_bits-kept.result c.spread_word-components.result (written_bits c.args.out.now.items c.args.word c.args.filled) (written_bits c.loop-group.out.items c.loop-group.last c.loop-group.used) (written_bits c.append_bits.new.out.items c.in_ok-more.more c.in_ok-more.reached) (bits_of c.args.bytes.now)
      c.loop-group.invariant.bits c.in_ok-more.ensures.bits c.spread_word-components.ensures.bits c.read_bits-kept.ensures.bits;
  reached = record { room = c.in_ok-more.ensures.room; fits = c.in_ok-more.ensures.word };
}
