use Rattle.std.proofs.Common.{◌+◌, ◌++◌, arith, ap, ◌∙◌}
use Rattle.std.proofs.lemmas.List.{append_assoc}
use Rattle.zarrs_packbits.proofs.bit_writer.BitWriter.put_field.Goals as goal
use Rattle.zarrs_packbits.specs.Bits.{bits_of, low_bits, field}
use Rattle.zarrs_packbits.proofs.FieldLemmas.{field_more}

pub loop-done-preserved : goal.loop-done-preserved
loop-done-preserved c =
    let at = c.args.at in
    let done = c.loop-done.done in
    let more = c.min-more.result in
    let bits = bits_of c.args.bytes.now in
    let before = c.args.self.now in
    let word = low_bits more c.read_bits-bits.result in
    record {
      bits = c.in_ok-put.ensures.appended
          ∙ ap (λ xs. xs ++ word) c.loop-done.invariant.bits
          ∙ ap (λ xs. (before ++ field at done bits) ++ xs) c.read_bits-bits.ensures.bits
          ∙ append_assoc before (field at done bits) (field (at + done) more bits)
          ∙ ap (λ xs. before ++ xs) (field_more at done more bits);
      within = omega arith;
    }
