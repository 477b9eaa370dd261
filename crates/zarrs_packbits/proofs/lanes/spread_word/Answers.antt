use Rattle.std.proofs.Common.{◌≡◌, ◌*◌, ◌^◌, arith, ap, sym, ◌∙◌}
use Rattle.zarrs_packbits.proofs.lanes.spread_word.Goals as goal
use Rattle.zarrs_packbits.specs.Bits.{low_bits}
use Rattle.zarrs_packbits.specs.BitStream.{components_from}
use Rattle.zarrs_packbits.proofs.LaneLemmas.{spread_more}
use Rattle.zarrs_packbits.proofs.LowBits.{low_bits-mod}

pub loop-lane-preserved : goal.loop-lane-preserved
loop-lane-preserved c =
    spread_more c.args.layout c.loop-lane.lane c.args.lanes c.args.width c.loop-lane.word c.args.kept c.lowest-part.result c.component_word-component.result c.requires.size c.requires.lanes (omega arith) c.lowest-part.ensures.value c.component_word-component.ensures.bits c.component_word-component.ensures.below c.loop-lane.invariant

pub returns : goal.returns
returns c =
    let whole = c.loop-lane.word * 2 ^ c.args.layout.first in
    let end : c.loop-lane.lane ≡ c.args.lanes = omega arith in
    record {
      bits =
          low_bits-mod 64 whole
          ∙ ap (λ n. low_bits n whole) (sym (ap (λ n. n * c.args.width) end ∙ c.requires.lanes))
          ∙ c.loop-lane.invariant.bits
          ∙ ap (λ n. components_from c.args.layout 0 n (low_bits (c.args.lanes * c.args.layout.count) c.args.kept)) end;
    }
