use Rattle.zarrs_data_type.specs.Form.{form_of}
use Rattle.std.proofs.Common.{ap, subst, sym, ◌∙◌}
use Rattle.std.proofs.lemmas.Bool.{false≢true}
use Rattle.zarrs_chunk.specs.Answer.{Answers, memory}
use Rattle.zarrs_array_bytes.specs.Held.{raw_of, items_of}
use Rattle.zarrs_array_bytes.specs.Validity.{validity}
use Rattle.zarrs_packbits.specs.PackBitsCodec.{packbits_value}
use Rattle.zarrs_packbits.specs.PackBitsSettings.{keeps_all_bytes}
use Rattle.zarrs_packbits.proofs.Coding.{encoded_is, raw_length}
use Rattle.zarrs_packbits.proofs.ByGrammar.{packbits_encodes}
use Rattle.zarrs_packbits.proofs.WholeChunk.{answers_seen}
use Rattle.zarrs_packbits.proofs.packbits_codec.PackBitsCodec.encode.Goals as goal

pub packed_raw-requires-clause-len : goal.packed_raw-requires-clause-len
packed_raw-requires-clause-len c =
    raw_length c.args.self.now c.args.shape.now c.args.data_type.now c.args.fill_value.now c.args.elements (raw_of c.in_ok-raw.raw) c.in_ok-layout.layout (sym c.in_ok-layout.ensures.answer) (ap (λ n. validity c.args.data_type.now n c.args.elements) (sym c.in_ok-layout.ensures.elements) ∙ sym c.in_ok-validate.ensures.exact) (sym c.in_ok-raw.ensures.answer)

exactly : (c : goal.After-packed_raw) → Answers memory items_of c.packed_raw.result (packbits_value c.args.self.now (form_of c.args.shape.now c.args.data_type.now c.args.fill_value.now) c.args.elements)
exactly c =
    let valid = ap (λ n. validity c.args.data_type.now n c.args.elements) (sym c.in_ok-layout.ensures.elements) ∙ sym c.in_ok-validate.ensures.exact in
    let is = encoded_is c.args.self.now c.args.shape.now c.args.data_type.now c.args.fill_value.now c.args.elements (raw_of c.in_ok-raw.raw) c.in_ok-layout.layout (sym c.in_ok-layout.ensures.answer) valid (sym c.in_ok-raw.ensures.answer) in
    subst (Answers memory items_of c.packed_raw.result) (sym is) c.packed_raw.ensures.exact.is

pub returns-clause-encodes : goal.returns-clause-encodes
returns-clause-encodes c = packbits_encodes c.args.self.now (form_of c.args.shape.now c.args.data_type.now c.args.fill_value.now) c.args.elements c.packed_raw.result (exactly c) c.packed_raw.ensures.exact.no_fault

pub returns-clause-in_place : goal.returns-clause-in_place
returns-clause-in_place c = λ h. absurd (false≢true (c.if-is_whole.ensures.value ∙ ap keeps_all_bytes c.in_ok-layout.ensures.answer ∙ h))

pub returns-clause-kept : goal.returns-clause-kept
returns-clause-kept c = λ h. absurd (false≢true (c.if-is_whole.ensures.value ∙ ap keeps_all_bytes c.in_ok-layout.ensures.answer ∙ h))

pub encode_whole-requires : goal.encode_whole-requires
encode_whole-requires c = record { whole = sym (ap keeps_all_bytes c.in_ok-layout.ensures.answer) ∙ sym c.if-is_whole.ensures.value }

pub returns-then-is_whole-clause-encodes : goal.returns-then-is_whole-clause-encodes
returns-then-is_whole-clause-encodes c =
    packbits_encodes c.args.self.now (form_of c.args.shape.now c.args.data_type.now c.args.fill_value.now) c.args.elements c.encode_whole.result (answers_seen memory items_of c.encode_whole.result _ c.encode_whole.ensures.exact) c.encode_whole.ensures.no_fault
