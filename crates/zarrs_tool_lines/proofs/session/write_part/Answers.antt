use Rattle.std.proofs.Common.{rules, ap, ◌∙◌, refl}
use Rattle.std.specs.Prelude.{◌≡◌, ℕ, List, Option, Some, Result, Ok, Err}
use Rattle.zarrs_chunk.specs.Answer.{Answers, memory, seen}
use Rattle.zarrs_chunk.specs.declared.codec_error.CodecError.{CodecError}
use Rattle.zarrs_codec.specs.MemoryHandle.{handle_value}
use Rattle.zarrs_chain.specs.ChainView.{plain_chain}
use Rattle.zarrs_codecs.specs.PartialEncoder.{encoder_form, encoder_handle}
use Rattle.zarrs_json.specs.Edit.{edit_seen}
use Rattle.zarrs_json.specs.KnownBytesCodec.{known_codecs}
use Rattle.zarrs_codecs.proofs.MadeCoders.{write_quiet, written_made, written_unmade}
use Rattle.zarrs_json.specs.Header.{HeaderForm}
use Rattle.zarrs_json.specs.HeaderRead.{header_seen}
use Rattle.zarrs_tool_lines.specs.Commands.{State, line_value_left}
use Rattle.zarrs_tool_lines.proofs.session.write_part.Goals as goal

seen_twice : {E A B C : Type 0} (f : A → B) (g : B → C) (r : Result A E) → seen (λ x. g (f x)) r ≡ seen g (seen f r)
seen_twice f g (Ok x) = refl
seen_twice f g (Err e) = refl

-- what a handle keeps after a write, as the state of a session
stored : (g : Option (List ℕ) → State) (after : Option (List ℕ)) (result : Result (Unit {0}) CodecError) (left : Result (List ℕ) CodecError)
    → Answers memory (λ _. after) result (seen Some left) → Answers memory (λ _. g after) result (seen (λ value. g (Some value)) left)
stored g after (Ok u) left e = seen_twice Some g left ∙ ap (seen g) e
stored g after (Err cause) left e = λ m. seen_twice Some g left ∙ ap (seen g) (e m)

pub returns-in-Err-clause-answer : goal.returns-in-Err-clause-answer
returns-in-Err-clause-answer c =
    let header = header_seen c.args.header.now in
    let before = handle_value c.args.handle.now in
    stored (λ value. record { header = header; value = value }) before (Err c.in-Err.refused.error) (line_value_left header before (edit_seen c.args.edit.now))
    (written_unmade known_codecs (record { chain = plain_chain c.args.header.now.chain; sizes = c.args.header.now.shape; type = c.args.header.now.data_type; fill = c.args.header.now.fill_value }) (handle_value c.args.handle.now) (edit_seen c.args.edit.now).selection (edit_seen c.args.edit.now).new c.in-Err.refused.error c.in-Err.ensures.answer.is)

pub returns-in-Ok-clause-answer : goal.returns-in-Ok-clause-answer
returns-in-Ok-clause-answer c =
    let chunk : HeaderForm = record { chain = plain_chain c.args.header.now.chain; sizes = c.args.header.now.shape; type = c.args.header.now.data_type; fill = c.args.header.now.fill_value } in
    let old = (encoder_handle c.in-Ok.encoder).now in
    let new = (encoder_handle c.partial_encode-written.new.self).now in
    let header = header_seen c.args.header.now in
    stored (λ value. record { header = header; value = value }) _ c.partial_encode-written.result (line_value_left header (handle_value c.args.handle.now) (edit_seen c.args.edit.now))
    (written_made known_codecs chunk (encoder_form c.in-Ok.encoder) (handle_value c.args.handle.now) (handle_value old) _ (handle_value new) (edit_seen c.args.edit.now).selection (edit_seen c.args.edit.now).new c.partial_encode-written.result c.in-Ok.ensures.form (ap (λ h. handle_value h.now) c.in-Ok.ensures.over) c.in-Ok.ensures.answer.is
    (write_quiet _ c.partial_encode-written.result old new c.partial_encode-written.ensures.left.refused) c.partial_encode-written.ensures.edits.exact (search rules))
