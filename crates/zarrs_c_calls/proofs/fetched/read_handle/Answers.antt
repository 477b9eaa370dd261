use Rattle.std.proofs.Common.{◌≡◌, IfOk, ap, subst}
use Rattle.zarrs_chunk.specs.Indexer.{selection_of}
use Rattle.zarrs_array_bytes.specs.Tight.{IsTight}
use Rattle.zarrs_json.specs.HeaderRead.{header_seen}
use Rattle.zarrs_codecs.specs.PartialDecoder.{decoder_form, handle_of, decoder_source}
use Rattle.zarrs_json.specs.Header.{header_form, HeaderForm}
use Rattle.zarrs_c_calls.proofs.FetchedLemmas.{part_answered, part_stopped}
use Rattle.zarrs_c_calls.proofs.LackingLemmas.{surely_read}
use Rattle.zarrs_c_calls.proofs.fetched.read_handle.Goals as goal

pub returns-in-Err-clause-answer : goal.returns-in-Err-clause-answer
returns-in-Err-clause-answer g c =
    let chunk = header_form (header_seen c.args.form.now) in
    part_stopped chunk (g.H.BytesPartialDecoderTraits.state c.args.handle).value (selection_of c.args.indexer.now) c.in-Err.refused.error c.in-Err.ensures.answer

pub returns-in-Err-clause-sure : goal.returns-in-Err-clause-sure
returns-in-Err-clause-sure g c = λ asks.
    let quiet = c.in-Err.ensures.no_fault_if_in_part asks in
    record { refused = λ _. quiet; sure = λ _. quiet }

pub returns-in-Ok-clause-answer : goal.returns-in-Ok-clause-answer
returns-in-Ok-clause-answer g c =
    let chunk = header_form (header_seen c.args.form.now) in
    let value = (g.H.BytesPartialDecoderTraits.state c.args.handle).value in
    let over : (g.H.BytesPartialDecoderTraits.state (handle_of c.in-Ok.decoder)).value ≡ value = ap (λ s. s.value) c.in-Ok.ensures.over_state in
    part_answered chunk (decoder_form c.in-Ok.decoder) value (g.H.BytesPartialDecoderTraits.state (handle_of c.in-Ok.decoder)).value (selection_of c.args.indexer.now) c.partial_decode.result (decoder_source c.in-Ok.decoder value) c.in-Ok.ensures.form over c.in-Ok.ensures.answer
    c.partial_decode.ensures.reads.exact

pub returns-in-Ok-clause-sure : goal.returns-in-Ok-clause-sure
returns-in-Ok-clause-sure g c = λ asks.
    let chunk = header_form (header_seen c.args.form.now) in
    surely_read chunk (decoder_form c.in-Ok.decoder) (g.H.BytesPartialDecoderTraits.state c.args.handle) (g.H.BytesPartialDecoderTraits.state (handle_of c.in-Ok.decoder)) (selection_of c.args.indexer.now) c.partial_decode.result c.in-Ok.ensures.form c.in-Ok.ensures.over_state c.partial_decode.ensures.reads

pub returns-in-Ok-clause-tight : goal.returns-in-Ok-clause-tight
returns-in-Ok-clause-tight g c =
    subst (λ (form : HeaderForm). IfOk c.partial_decode.result (IsTight form.type)) c.in-Ok.ensures.form c.partial_decode.ensures.tight
