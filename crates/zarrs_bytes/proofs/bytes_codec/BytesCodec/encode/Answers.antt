use Rattle.std.proofs.Common.{◌≡◌, Ok, sym, ◌∙◌, ap, subst}
use Rattle.std.specs.Prelude.{IsOk}
use Rattle.zarrs_chunk.specs.Answer.{Answers, memory}
use Rattle.zarrs_chunk.specs.AnswerLaws.{seen_from}
use Rattle.zarrs_array_bytes.specs.Held.{raw_of, items_of}
use Rattle.zarrs_array_bytes.specs.Parts.{fixed_part}
use Rattle.zarrs_array_bytes.specs.Validity.{validity}
use Rattle.zarrs_array_bytes.specs.Turned.{turned_bytes}
use Rattle.zarrs_bytes.specs.BytesCodec.{bytes_value, turn_size}
use Rattle.zarrs_bytes.proofs.Coding.{encoded_is, spared, ok_from_seen}
use Rattle.zarrs_data_type.specs.Form.{form_of}
use Rattle.zarrs_bytes.proofs.ByGrammar.{bytes_encodes}
use Rattle.zarrs_bytes.proofs.bytes_codec.BytesCodec.encode.Goals as goal

exactly : (c : goal.After-turn) → Answers memory items_of c.turn.result (bytes_value c.args.self.now (form_of c.args.shape.now c.args.data_type.now c.args.fill_value.now) c.args.elements)
exactly c =
    let valid : validity c.args.data_type.now c.in_ok-lengths.lengths.elements c.args.elements ≡ Ok tt = sym c.in_ok-validate.ensures.exact in
    let part : fixed_part c.args.elements ≡ Ok (raw_of c.in_ok-raw.raw) = sym c.in_ok-raw.ensures.answer in
    let answer : Answers memory items_of c.turn.result (Ok (turned_bytes (turn_size c.args.self.now c.args.data_type.now) (raw_of c.in_ok-raw.raw).items))
    = subst (λ s. Answers memory items_of c.turn.result (Ok (turned_bytes s (raw_of c.in_ok-raw.raw).items))) c.turn_size.ensures.size c.turn.ensures.exact.is in
    let is = encoded_is c.args.self.now c.args.shape.now c.args.data_type.now c.args.fill_value.now c.args.elements (raw_of c.in_ok-raw.raw) c.in_ok-lengths.lengths.bytes (sym c.in_ok-lengths.ensures.answer) (ap (λ n. validity c.args.data_type.now n c.args.elements) (sym c.in_ok-lengths.ensures.elements) ∙ valid) part in
    subst (Answers memory items_of c.turn.result) (sym is) answer

pub returns-clause-encodes : goal.returns-clause-encodes
returns-clause-encodes c = bytes_encodes c.args.self.now (form_of c.args.shape.now c.args.data_type.now c.args.fill_value.now) c.args.elements c.turn.result (exactly c) c.turn.ensures.exact.no_fault

pub returns-clause-in_place : goal.returns-clause-in_place
returns-clause-in_place c = λ h.
    let isOk : IsOk c.turn.result = spared c.args.self.now c.args.data_type.now c.args.elements (raw_of c.in_ok-raw.raw) (IsOk c.turn.result) h (sym c.in_ok-raw.ensures.answer)
    (λ e. ok_from_seen raw_of c.turn.result (raw_of c.in_ok-raw.raw) (c.turn.ensures.kept (c.turn_size.ensures.size ∙ e)))
    c.turn.ensures.owned in
    seen_from memory items_of c.turn.result (bytes_value c.args.self.now (form_of c.args.shape.now c.args.data_type.now c.args.fill_value.now) c.args.elements) isOk (exactly c)
