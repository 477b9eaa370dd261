use Rattle.std.proofs.Common.{◌≡◌, ◌+◌, ◌-◌, ◌*◌, ◌/◌, ◌%◌, get_or, ap, ◌∙◌, arith}
use Rattle.zarrs_packbits.specs.Bits.{low_bits, bits_of, field}
use Rattle.zarrs_packbits.proofs.words.read_bits.Goals as goal
use Rattle.zarrs_packbits.proofs.WordLemmas.{field_within, field_beyond, byte_field}

pub returns-then-shift-count-le64-clause-bits : goal.returns-then-shift-count-le64-clause-bits
returns-then-shift-count-le64-clause-bits c =
    let at = c.args.at in
    let count = c.args.count in
    let bits = bits_of c.args.bytes.now in
    let start = at / 8 in
    let shift = at % 8 in
    ap (low_bits count) c.lowest.ensures.value
    ∙ field_within bits (8 * start) shift count c.word_from.result (c.word_from.ensures.bits (shift + count) (omega arith) (omega arith))
    ∙ ap (λ n. field n count bits) (let e : 8 * start + shift ≡ at = omega arith in e)

pub returns-clause-bits : goal.returns-clause-bits
returns-clause-bits c =
    let at = c.args.at in
    let count = c.args.count in
    let bytes = c.args.bytes.now in
    let bits = bits_of bytes in
    let start = at / 8 in
    let shift = at % 8 in
    let m = shift + count - 64 in
    let high = get_or bytes (start + 8) 0 in
    let behind : low_bits m high ≡ field (8 * start + 64) m bits
    = byte_field bytes (start + 8) m (omega arith) (omega arith) ∙ ap (λ n. field n m bits) (let e : 8 * (start + 8) ≡ 8 * start + 64 = omega arith in e) in
    ap (low_bits count) c.lowest-2.ensures.value
    ∙ field_beyond bits (8 * start) shift count c.word_from.result high (omega arith) c.requires.count (omega arith) c.word_from.type_inv (c.word_from.ensures.bits 64 (omega arith) (omega arith)) behind
    ∙ ap (λ n. field n count bits) (let e : 8 * start + shift ≡ at = omega arith in e)
