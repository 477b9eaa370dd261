use Rattle.std.proofs.Common.{◌≡◌, ◌/◌, ◌%◌, ◌^◌, ◌<◌, rules, length, ap, sym, ◌∙◌, subst}
use Rattle.zarrs_packbits.proofs.words.eight_flags.Goals as goal
use Rattle.zarrs_packbits.specs.Bits.{low_bits}
use Rattle.zarrs_packbits.proofs.ProductLemmas.{product_moved, product_is, low_bits-joined, flags_are, joined_small}

pub returns-clause-bits : goal.returns-clause-bits
returns-clause-bits c =
    let w = c.read_word.result in
    let b = c.args.bit in
    let x = w / 2 ^ b in
    let long : length c.args.bytes.now ≡ 8 = search rules in
    ap (λ n. low_bits 8 (n % 2 ^ 64 / 2 ^ 56)) (product_moved w b c.requires.bit)
    ∙ ap (low_bits 8) (product_is x) ∙ low_bits-joined 8 x
    ∙ flags_are c.args.bytes.now w b long c.requires.bit c.read_word.ensures.bits

pub returns-clause-below : goal.returns-clause-below
returns-clause-below c =
    let w = c.read_word.result in
    let b = c.args.bit in
    let x = w / 2 ^ b in
    subst (λ n. n < 2 ^ 8) (sym (ap (λ n. n % 2 ^ 64 / 2 ^ 56) (product_moved w b c.requires.bit) ∙ product_is x)) (joined_small 8 x)
