use Rattle.std.proofs.Common.{◌++◌, replicate, arith, ap, ◌∙◌}
use Rattle.std.proofs.lemmas.List.{append_assoc, replicate-append-replicate}
use Rattle.zarrs_packbits.proofs.bit_writer.BitWriter.put_repeated.Goals as goal
use Rattle.zarrs_packbits.specs.Bits.{low_bits, bit_of}

pub loop-done-preserved : goal.loop-done-preserved
loop-done-preserved c =
    let done = c.loop-done.done in
    let more = c.min-more.result in
    let bit = bit_of c.args.bit in
    let before = c.args.self.now in
    let word = low_bits more c.repeat_bit.result in
    record {
      bits = c.in_ok-put.ensures.appended
          ∙ ap (λ xs. xs ++ word) c.loop-done.invariant.bits
          ∙ ap (λ xs. (before ++ replicate done bit) ++ xs) c.repeat_bit.ensures.bits
          ∙ append_assoc before (replicate done bit) (replicate more bit)
          ∙ ap (λ xs. before ++ xs) (replicate-append-replicate done more bit);
      within = omega arith;
    }
