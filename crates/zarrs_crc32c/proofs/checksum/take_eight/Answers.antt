use Rattle.std.proofs.Common.{ℕ, ◌*◌, ◌<◌, bit_xor, ap, sym, subst, ◌∙◌}
use Rattle.std.proofs.lemmas.Grind.{get_or_default_zero}
use Rattle.zarrs_crc32c.specs.Checksum.{after_bits}
use Rattle.zarrs_crc32c.proofs.Registers.{together, eight_spell, spelled}
use Rattle.zarrs_crc32c.proofs.checksum.take_eight.Goals as goal

pub returns : goal.returns
returns c =
    let bytes = c.args.bytes.now in
    let spells = c.from_le_bytes.ensures ∙ eight_spell bytes c.told-bytes in
    record {
      value =
          c.take_word.ensures.value ∙ ap (λ (x : ℕ). after_bits 64 (bit_xor c.args.register x)) spells
          ∙ ap (λ (n : ℕ). after_bits (8 * n) (bit_xor c.args.register (spelled bytes))) (sym c.told-bytes)
          ∙ sym (together c.args.register bytes (λ k d l. subst (λ (x : ℕ). x < 256) (sym (get_or_default_zero bytes k d l)) (c.fits-bytes k)));
    }
