use Rattle.std.proofs.Common.{◌≡◌, ◌+◌, ◌*◌, ◌/◌, ◌%◌, ◌^◌, ◌<◌, ◌≤◌, get_or, arith, ap, sym, subst, ◌∙◌}
use Rattle.std.specs.Prelude.{bit_or, bit_and}
use Rattle.std.proofs.lemmas.Nat.{shl_whole, or_comm, or_shifted, pow-add}
use Rattle.std.proofs.lemmas.Nat.Bits.{shr_and_one, bit_at-lt}
use Rattle.std.proofs.Math.Nat.{mul-le-mul_right}
use Rattle.zarrs_packbits.proofs.FlagLemmas.{flags_more}
use Rattle.zarrs_packbits.specs.Bits.{low_bits}
use Rattle.zarrs_packbits.proofs.words.gather_flags.Goals as goal

pub loop-index-preserved : goal.loop-index-preserved
loop-index-preserved c =
    let n = c.loop-index.index in
    let word = c.loop-index.word in
    let byte = get_or c.args.bytes.now n 0 in
    let flag = bit_and (byte / 2 ^ c.args.bit) 1 in
    let is = shr_and_one byte c.args.bit in
    let small : flag < 2 ^ 1 = omega (arith, is, bit_at-lt byte c.args.bit) in
    let one : flag ≤ 1 = omega arith in
    let joined : bit_or word (flag * 2 ^ n % 2 ^ 64) ≡ flag * 2 ^ n + word
    = ap (bit_or word) (shl_whole flag 1 n 64 small (omega arith)) ∙ or_comm word (flag * 2 ^ n) ∙ or_shifted flag n word c.loop-index.invariant.below in
    let below = c.loop-index.invariant.below in
    rw joined (record {
      bits = flags_more c.args.bytes.now n c.args.bit word flag (omega arith) c.requires.bit below c.loop-index.invariant.bits is;
      below = omega (arith, below, mul-le-mul_right (2 ^ n) one, pow-add 2 n 1);
    })

pub returns-then-bytes-eq64-clause-bits : goal.returns-then-bytes-eq64-clause-bits
returns-then-bytes-eq64-clause-bits c = ap (λ n. low_bits n c.gather_word.result) c.if-bytes-eq64.true ∙ c.gather_word.ensures.bits

pub returns-then-bytes-eq64-clause-below : goal.returns-then-bytes-eq64-clause-below
returns-then-bytes-eq64-clause-below c = subst (λ n. c.gather_word.result < 2 ^ n) (sym c.if-bytes-eq64.true) c.gather_word.type_inv
