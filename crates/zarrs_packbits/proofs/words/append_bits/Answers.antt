use Rattle.std.proofs.Common.{◌≡◌, ◌+◌, ◌-◌, ◌*◌, ◌/◌, ◌%◌, ◌^◌, ◌++◌, arith, ap, ◌∙◌}
use Rattle.std.proofs.lemmas.Nat.{shr_below, pow_pos}
use Rattle.std.specs.Prelude.{bit_or}
use Rattle.zarrs_packbits.proofs.words.append_bits.Goals as goal
use Rattle.zarrs_packbits.proofs.words.append_bits.Goals.{then-room-lt64, else-room-lt64}
use Rattle.zarrs_packbits.specs.Bits.{low_bits, bits_of}
use Rattle.zarrs_packbits.proofs.LowBits.{append_short, append_short-below, append_long, bits_of-push_word, no_bits}

pub returns-then-count-room-clause-bits : goal.returns-then-count-room-clause-bits
returns-then-count-room-clause-bits c =
    append_short c.args.filled (64 - c.args.filled) c.args.count c.args.bits c.args.word (bits_of c.args.out.now.items) (omega arith) c.requires.word c.requires.bits_fit (omega arith)

pub returns-then-count-room-clause-word : goal.returns-then-count-room-clause-word
returns-then-count-room-clause-word c =
    append_short-below c.args.filled (64 - c.args.filled) c.args.count c.args.bits c.args.word (omega arith) c.requires.word c.requires.bits_fit (omega arith)

pub returns-clause-bits : goal.returns-clause-bits
returns-clause-bits c =
    let f = c.args.filled in
    let r = 64 - c.args.filled in
    let joined = bit_or (c.args.bits * 2 ^ f % 2 ^ 64) c.args.word in
    let front = bits_of c.args.out.now.items in
    let pushed : bits_of c.extend_from_slice.new.self.items ≡ front ++ low_bits 64 joined
    = ap bits_of (c.in_ok-extend_from_slice.ensures.items ∙ ap (λ bytes. c.args.out.now.items ++ bytes) c.to_le_bytes.ensures) ∙ bits_of-push_word c.args.out.now.items joined in
    let left : low_bits (c.args.count - r) c.if-room-lt64.rest ≡ low_bits (c.args.count - r) (c.args.bits / 2 ^ r)
    = elim c.if-room-lt64.branch [
      | then-room-lt64 w ↦ ap (low_bits (c.args.count - r)) w.rest-is
      | else-room-lt64 w ↦ no_bits c.args.count r c.if-room-lt64.rest (c.args.bits / 2 ^ r) (omega arith)
    ] in
    ap (λ ns. ns ++ low_bits (c.args.count - r) c.if-room-lt64.rest) pushed
    ∙ ap (λ ns. (front ++ low_bits 64 joined) ++ ns) left
    ∙ append_long f r c.args.count c.args.bits c.args.word front (omega arith) c.requires.word (omega arith)

pub returns-clause-word : goal.returns-clause-word
returns-clause-word c =
    let r = 64 - c.args.filled in
    elim c.if-room-lt64.branch [
      | then-room-lt64 w ↦ rw w.rest-is (shr_below c.args.bits (c.args.count - r) r (let e : c.args.count - r + r ≡ c.args.count = omega arith in rw e c.requires.bits_fit))
      | else-room-lt64 w ↦ rw w.rest-is (pow_pos (c.args.count - r))
    ]
