use Rattle.std.proofs.Common.{◌≡◌, length, arith, rules, refl, Ok, sym, ◌∙◌, ap}
use Rattle.std.specs.Prelude.{IsOkAnd}
use Rattle.zarrs_array_bytes.specs.Held.{raw_of, items_of}
use Rattle.zarrs_array_bytes.specs.Validity.{Holds}
use Rattle.zarrs_array_bytes.specs.Turned.{turned_bytes}
use Rattle.zarrs_bytes.specs.BytesCodec.{bytes_chunk, turn_size}
use Rattle.zarrs_array_bytes.proofs.ValidLemmas.{raw_items}
use Rattle.zarrs_bytes.proofs.Coding.{decoded_holds}
use Rattle.zarrs_data_type.specs.Form.{form_of}
use Rattle.zarrs_bytes.proofs.ByGrammar.{bytes_decodes}
use Rattle.zarrs_bytes.proofs.bytes_codec.BytesCodec.decode.Goals as goal
use Rattle.zarrs_bytes.proofs.Exact.{bytes_are}

exactly : (c : goal.After-new_flen) → IsOkAnd (bytes_chunk c.args.self.now (form_of c.args.shape.now c.args.data_type.now c.args.fill_value.now) (raw_of c.args.value).items) (Holds c.args.data_type.now c.new_flen.result)
exactly c =
    let long : length (raw_of c.args.value).items ≡ c.in_ok-lengths.lengths.bytes = omega (arith, ap length (raw_items c.args.value)) in
    let is : (raw_of c.in_ok-elements.elements).items ≡ turned_bytes (turn_size c.args.self.now c.args.data_type.now) (raw_of c.args.value).items
    = bytes_are _ _ c.in_ok-elements.ensures.exact.is ∙ ap (λ s. turned_bytes s (raw_of c.args.value).items) c.turn_size.ensures.size in
    rw c.new_flen.ensures.made (decoded_holds c.args.self.now c.args.shape.now c.args.data_type.now c.args.fill_value.now (raw_of c.args.value).items (raw_of c.in_ok-elements.elements) c.in_ok-lengths.lengths.bytes (sym c.in_ok-lengths.ensures.answer) long is)

pub returns-clause-decodes : goal.returns-clause-decodes
returns-clause-decodes c = bytes_decodes c.args.self.now (form_of c.args.shape.now c.args.data_type.now c.args.fill_value.now) (items_of c.args.value) (Ok c.new_flen.result) (exactly c) refl

pub returns-then-found-lengths-clause-decodes : goal.returns-then-found-lengths-clause-decodes
returns-then-found-lengths-clause-decodes c = bytes_decodes c.args.self.now (form_of c.args.shape.now c.args.data_type.now c.args.fill_value.now) (items_of c.args.value) _ (search rules) refl

pub returns-clause-in_place : goal.returns-clause-in_place
returns-clause-in_place c = λ _. exactly c
