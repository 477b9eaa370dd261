use Rattle.std.proofs.Common.{List, ℕ, refl, drop, sym, ◌∙◌, ap}
use Rattle.zarrs_array_bytes.specs.Held.{items_of, owned_bytes}
use Rattle.zarrs_array_bytes.proofs.ValidLemmas.{raw_items}
use Rattle.zarrs_packbits.specs.Bits.{bits_of}
use Rattle.zarrs_packbits.specs.BitStream.{components_from}
use Rattle.zarrs_packbits.specs.PackBitsCodec.{value_checked}
use Rattle.zarrs_packbits.specs.PackedLayout.{layout_components}
use Rattle.zarrs_packbits.specs.PaddingByte.{lead}
use Rattle.zarrs_packbits.specs.Packing.{packing}
use Rattle.zarrs_packbits.proofs.Coding.{IsPassed, decoded_holds, elements_long, value_passed}
use Rattle.zarrs_packbits.proofs.packbits_codec.PackBitsCodec.decode_elements_into.Goals as goal

pub unpack_into-requires-clause-room : goal.unpack_into-requires-clause-room
unpack_into-requires-clause-room c =
    c.requires.len ∙ elements_long c.args.self.now c.args.shape.now c.args.data_type.now c.args.fill_value.now c.args.size c.in_ok-layout.layout (sym c.in_ok-layout.ensures.answer) c.requires.sized

pub returns-clause-decoded : goal.returns-clause-decoded
returns-clause-decoded c =
    let l = c.in_ok-layout.layout in
    let value = items_of c.args.value in
    let passed : IsPassed l value = value_passed l value (c.in_ok-check_value.ensures.answer ∙ ap (value_checked l) (c.deref.ensures.value ∙ raw_items c.args.value)) in
    let made = c.in_ok-unpack_into.ensures.value
    ∙ ap (λ (b : List ℕ). packing (components_from l 0 (layout_components l) (bits_of (drop (lead l) b)))) (c.deref-2.ensures.value ∙ raw_items c.args.value) in
    record {
      is = decoded_holds c.args.self.now c.args.shape.now c.args.data_type.now c.args.fill_value.now value (owned_bytes c.unpack_into.new.elements) l (sym c.in_ok-layout.ensures.answer) passed.long passed.padded made;
      no_fault = refl;
    }
