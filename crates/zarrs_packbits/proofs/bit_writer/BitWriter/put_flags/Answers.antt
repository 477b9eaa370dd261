use Rattle.std.proofs.Common.{◌≡◌, ℕ, ◌+◌, ◌-◌, ◌++◌, List, length, take, drop, arith, ap, sym, ◌∙◌}
use Rattle.std.proofs.lemmas.List.{append_assoc, length-drop, length-take-le}
use Rattle.zarrs_packbits.specs.Bits.{low_bits}
use Rattle.zarrs_packbits.specs.WrittenBits.{flags_of}
use Rattle.zarrs_packbits.proofs.FlagLemmas.{flags_before, flags_split}
use Rattle.zarrs_packbits.proofs.bit_writer.BitWriter.put_flags.Goals as goal

pub loop-done-preserved : goal.loop-done-preserved
loop-done-preserved c =
    let bytes = c.args.bytes.now in
    let bit = c.args.bit in
    let done = c.loop-done.done in
    let more = c.min-more.result in
    let before = c.args.self.now in
    let slice = take (done + more - done) (drop done bytes) in
    let count : done + more - done ≡ more = omega arith in
    let is : slice ≡ take more (drop done bytes) = ap (λ n. take n (drop done bytes)) count in
    let long : length slice ≡ more = ap length is ∙ length-take-le more (drop done bytes) (omega (arith, length-drop done bytes)) in
    record {
      bits = c.in_ok-put.ensures.appended
          ∙ ap (λ (xs : List ℕ). xs ++ low_bits more c.gather_flags-flags.result) c.loop-done.invariant.bits
          ∙ ap (λ (xs : List ℕ). (before ++ flags_before bit bytes done) ++ xs) (ap (λ n. low_bits n c.gather_flags-flags.result) (sym long) ∙ c.gather_flags-flags.ensures.bits)
          ∙ append_assoc before (flags_before bit bytes done) (flags_of bit slice)
          ∙ ap (λ (xs : List ℕ). before ++ xs) (sym (flags_split bytes slice bit done more is long));
      within = omega arith;
    }
