use Rattle.std.proofs.Common.{ℕ, ◌/◌, bit_xor, ap, sym, ◌∙◌}
use Rattle.std.proofs.lemmas.Nat.{and_mask}
use Rattle.zarrs_crc32c.specs.Checksum.{after_bits}
use Rattle.zarrs_crc32c.proofs.Registers.{one_byte}
use Rattle.zarrs_crc32c.proofs.checksum.take_byte.Goals as goal

pub returns : goal.returns
returns c =
    let mixed : ℕ = bit_xor c.args.register c.args.byte in
    record {
      value =
          ap (λ (x : ℕ). bit_xor x (mixed / 256)) (c.look_up.ensures.value ∙ ap (after_bits 8) (and_mask mixed 8)) ∙ sym (one_byte mixed);
    }
