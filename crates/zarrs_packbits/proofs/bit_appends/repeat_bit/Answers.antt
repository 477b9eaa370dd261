use Rattle.std.proofs.Common.{replicate, arith, ap, ◌∙◌, sym}
use Rattle.std.proofs.lemmas.Nat.{pow_pos}
use Rattle.zarrs_packbits.proofs.bit_appends.repeat_bit.Goals as goal
use Rattle.zarrs_packbits.specs.Bits.{low_bits, bit_of}
use Rattle.zarrs_packbits.proofs.LowBits.{low_bits-zero}
use Rattle.zarrs_packbits.proofs.FieldLemmas.{low_bits_ones, ones_shifted}

pub returns-then-bit-clause-bits : goal.returns-then-bit-clause-bits
returns-then-bit-clause-bits c =
    ap (low_bits c.args.count) (ones_shifted c.args.count c.requires.count) ∙ low_bits_ones c.args.count ∙ ap (λ b. replicate c.args.count (bit_of b)) (sym c.if-bit.true)

pub returns-then-bit-clause-below : goal.returns-then-bit-clause-below
returns-then-bit-clause-below c = omega (arith, ones_shifted c.args.count c.requires.count, pow_pos c.args.count)

pub returns-else-bit-clause-bits : goal.returns-else-bit-clause-bits
returns-else-bit-clause-bits c = low_bits-zero c.args.count ∙ ap (λ b. replicate c.args.count (bit_of b)) (sym c.if-bit.false)
