use Rattle.std.proofs.Common.{◌≡◌, ◌+◌, ◌-◌, ◌*◌, take, drop, arith, ap, sym, ◌∙◌}
use Rattle.zarrs_packbits.proofs.FlagLemmas.{flags_before}
use Rattle.zarrs_packbits.proofs.ProductLemmas.{flags_step, flags_joined, flags_below}
use Rattle.zarrs_packbits.proofs.words.gather_word.Goals as goal

pub loop-index-preserved : goal.loop-index-preserved
loop-index-preserved c =
    let k = c.loop-index.index in
    let word = c.loop-index.word in
    let flags = c.eight_flags.result in
    let bytes = c.args.bytes.now in
    let size : 8 * k + 8 - 8 * k ≡ 8 = omega arith in
    rw (flags_joined k word flags (omega arith) c.eight_flags.ensures.below c.loop-index.invariant.below) (record {
      bits = flags_step bytes c.copy_from_slice.new.self k c.args.bit word flags (c.copy_from_slice.ensures.after ∙ ap (λ n. take n (drop (8 * k) bytes)) size) (omega (arith, c.requires.count)) c.loop-index.invariant.bits c.loop-index.invariant.below c.eight_flags.ensures.bits;
      below = flags_below k word flags c.eight_flags.ensures.below c.loop-index.invariant.below;
    })

pub returns : goal.returns
returns c =
    let end : c.loop-index.index ≡ 8 = omega arith in
    record { bits = (rw end at c.loop-index.invariant.bits) ∙ ap (flags_before c.args.bit c.args.bytes.now) (sym c.requires.count) }
