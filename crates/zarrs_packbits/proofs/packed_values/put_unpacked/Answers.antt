use Rattle.std.proofs.Common.{◌-◌, List, ℕ, length, take, drop, ap, sym, ◌∙◌}
use Rattle.std.proofs.lemmas.List.{take_rest}
use Rattle.zarrs_packbits.specs.Bits.{bits_of}
use Rattle.zarrs_packbits.specs.BitStream.{components_from}
use Rattle.zarrs_packbits.specs.PackedLayout.{layout_components}
use Rattle.zarrs_packbits.specs.Packing.{packing}
use Rattle.zarrs_packbits.proofs.FieldLemmas.{packed_bytes}
use Rattle.zarrs_packbits.proofs.packed_values.put_unpacked.Goals as goal

pub returns : goal.returns
returns c =
    let l = c.args.layout.now in
    let value = c.args.value.now in
    let n = c.lead.result in
    let made : List ℕ → List ℕ = λ packed. components_from l 0 (layout_components l) (bits_of packed) in
    let bits = c.put_spread.ensures.written
    ∙ ap (λ k. components_from l 0 k (bits_of (take (length value - n) (drop n value)))) c.requires.room
    ∙ ap made (take_rest value n)
    ∙ ap (λ k. made (drop k value)) c.lead.ensures.value in
    record { value = sym (packed_bytes c.put_spread.new.out c.bytes_are.ensures.small) ∙ ap packing bits }
