use Rattle.std.proofs.Common.{ℕ, List, ◌+◌, ◌*◌, ap, ◌∙◌}
use Rattle.zarrs_packbits.proofs.bit_appends.append_components.Goals as goal
use Rattle.zarrs_packbits.specs.Bits.{bits_of, low_bits, field}
use Rattle.zarrs_packbits.specs.KeptBits.{full_component}
use Rattle.zarrs_packbits.specs.WrittenBits.{written_bits}
use Rattle.zarrs_packbits.proofs.LayoutLemmas.{more_behind}

pub loop-part-preserved : goal.loop-part-preserved
loop-part-preserved c =
    let l = c.args.layout.now in
    let part = c.loop-part.part in
    let f : ℕ → List ℕ = λ part. full_component l.first l.above l.sign (field (c.args.at + part * l.count) l.count (bits_of c.args.bytes.now)) in
    record {
      bits = more_behind (written_bits c.args.out.now.items c.args.word c.args.filled) (written_bits c.loop-part.out.items c.loop-part.last c.loop-part.used) (written_bits c.append_bits.new.out.items c.in_ok-more.more c.in_ok-more.reached) (low_bits (l.first + l.count + l.above) c.component_word-bits.result) f part
          c.in_ok-more.ensures.bits c.loop-part.invariant.bits
          (c.component_word-bits.ensures.bits ∙ ap (full_component l.first l.above l.sign) c.read_bits-kept.ensures.bits);
      reached = record { room = c.in_ok-more.ensures.room; fits = c.in_ok-more.ensures.word };
    }
