use Rattle.std.proofs.Common.{rules, ℕ, List, length, drop, ap, sym, ◌∙◌}
use Rattle.zarrs_array_bytes.proofs.ValidLemmas.{raw_items}
use Rattle.zarrs_bytes.proofs.Coding.{ok}
use Rattle.zarrs_packbits.specs.Bits.{bits_of}
use Rattle.zarrs_packbits.specs.BitStream.{components_from}
use Rattle.zarrs_packbits.specs.PackedLayout.{layout_components}
use Rattle.zarrs_packbits.specs.PaddingByte.{lead}
use Rattle.zarrs_packbits.specs.Packing.{packing}
use Rattle.zarrs_packbits.proofs.packed_values.unpacked_raw.Goals as goal

pub unpacked_bytes-requires-clause-len : goal.unpacked_bytes-requires-clause-len
unpacked_bytes-requires-clause-len c = ap length (c.deref.ensures.value ∙ raw_items c.args.value) ∙ c.requires.len

pub returns : goal.returns
returns c =
    let l = c.args.layout.now in
    record { exact = record { is = ap ok (ap (λ (b : List ℕ). packing (components_from l 0 (layout_components l) (bits_of (drop (lead l) b)))) (sym (c.deref.ensures.value ∙ raw_items c.args.value)) ∙ sym c.in_ok-bytes.ensures.value); no_fault = search rules } }
