use Rattle.zarrs_data_type.specs.Form.{form_of}
use Rattle.std.proofs.Common.{refl, Ok, sym, ◌∙◌, ap}
use Rattle.std.specs.Prelude.{IsOkAnd}
use Rattle.zarrs_chunk.specs.Answer.{memory}
use Rattle.zarrs_array_bytes.specs.Held.{raw_of, items_of}
use Rattle.zarrs_array_bytes.specs.Validity.{Holds}
use Rattle.zarrs_array_bytes.proofs.ValidLemmas.{raw_items}
use Rattle.zarrs_packbits.specs.PackBitsCodec.{packbits_chunk, value_checked}
use Rattle.zarrs_packbits.proofs.Coding.{IsPassed, decoded_holds, value_passed}
use Rattle.zarrs_packbits.proofs.ByGrammar.{packbits_decodes}
use Rattle.zarrs_packbits.proofs.WholeChunk.{answers_excused}
use Rattle.zarrs_packbits.proofs.packbits_codec.PackBitsCodec.decode.Goals as goal
use Rattle.zarrs_bytes.proofs.Exact.{bytes_are}

exactly : (c : goal.After-new_flen) → IsOkAnd (packbits_chunk c.args.self.now (form_of c.args.shape.now c.args.data_type.now c.args.fill_value.now) (raw_of c.args.value).items) (Holds c.args.data_type.now c.new_flen.result)
exactly c =
    let l = c.in_ok-layout.layout in
    let value = (raw_of c.args.value).items in
    let passed : IsPassed l value = value_passed l value (c.in_ok-check_value.ensures.answer ∙ ap (value_checked l) (c.deref.ensures.value ∙ raw_items c.args.value)) in
    let is = bytes_are _ _ c.in_ok-elements.ensures.exact.is in
    let raw = c.in_ok-elements.elements in
    rw c.new_flen.ensures.made (decoded_holds c.args.self.now c.args.shape.now c.args.data_type.now c.args.fill_value.now value (raw_of raw) l (sym c.in_ok-layout.ensures.answer) passed.long passed.padded is)

pub returns-clause-decodes : goal.returns-clause-decodes
returns-clause-decodes c = packbits_decodes c.args.self.now (form_of c.args.shape.now c.args.data_type.now c.args.fill_value.now) (items_of c.args.value) (Ok c.new_flen.result) (exactly c) refl

pub returns-then-is_whole-clause-decodes : goal.returns-then-is_whole-clause-decodes
returns-then-is_whole-clause-decodes c =
    packbits_decodes c.args.self.now (form_of c.args.shape.now c.args.data_type.now c.args.fill_value.now) (items_of c.args.value) c.decode_whole.result (answers_excused memory (Holds c.args.data_type.now) c.decode_whole.result _ c.decode_whole.ensures.exact) c.decode_whole.ensures.no_fault
