use Rattle.std.proofs.Common.{ℕ, ◌++◌, replicate, arith, ap, ◌∙◌, Vec, Global}
use Rattle.zarrs_packbits.proofs.bit_writer.BitWriter.finish.Goals as goal
use Rattle.zarrs_packbits.proofs.FieldLemmas.{packed_is}
use Rattle.zarrs_packbits.specs.Packing.{spare_bits}
use Rattle.zarrs_packbits.specs.Bits.{bits_of}

pub returns : goal.returns
returns c =
    let spare = spare_bits c.self.inside.filled in
    let same = ap (λ (v : Vec ℕ Global). bits_of v.items) c.in_range-bytes.ensures.same in
    record { value = packed_is c.in_range-bytes.result.items c.args.self spare c.in_range-bytes.ensures.below (same ∙ c.in_ok-flush_word.ensures.bits ∙ ap (λ bits. bits ++ replicate spare 0) c.self.view_is) (omega arith) }
