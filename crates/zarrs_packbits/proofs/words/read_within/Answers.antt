use Rattle.std.proofs.Common.{◌≡◌, ◌+◌, ◌-◌, ◌*◌, take, drop, ap, ◌∙◌, arith}
use Rattle.zarrs_packbits.specs.Bits.{low_bits, bits_of}
use Rattle.zarrs_packbits.proofs.words.read_within.Goals as goal
use Rattle.zarrs_packbits.proofs.WordLemmas.{field_within, word_field}

pub returns-clause-bits : goal.returns-clause-bits
returns-clause-bits c =
    let bytes = c.args.bytes.now in
    let start = c.args.start in
    let shift = c.args.shift in
    let count = c.args.count in
    let size : start + 8 - start ≡ 8 = omega arith in
    let held = c.read_word.ensures.bits ∙ ap bits_of (c.copy_from_slice.ensures.after ∙ ap (λ n. take n (drop start bytes)) size) in
    ap (low_bits count) c.lowest.ensures.value
    ∙ field_within (bits_of bytes) (8 * start) shift count c.read_word.result (word_field bytes start (shift + count) c.read_word.result c.requires.within c.requires.inside held)
