use Rattle.std.proofs.Common.{◌≡◌, false, Err, ap, ◌∙◌, rules}
use Rattle.std.proofs.lemmas.Result.{err_from_is_err_and}
use Rattle.zarrs_chunk.specs.Answer.{fault, memory}
use Rattle.zarrs_chunk.specs.Indexer.{selection_of}
use Rattle.zarrs_codecs.specs.PartialDecoder.{decoder_form, handle_of}
use Rattle.zarrs_codecs.specs.ChunkSource.{source_made}
use Rattle.zarrs_codecs.proofs.MadeCoders.{excused_less}
use Rattle.zarrs_json.specs.KnownBytesCodec.{known_codecs, known_reads}
use Rattle.zarrs_lent_handles.specs.Pieces.{zeros}
use Rattle.zarrs_lent_handles.specs.PiecesHandle.{pieces_state}
use Rattle.zarrs_c_calls.specs.LackingByte.{apart_read}
use Rattle.zarrs_c_calls.proofs.FetchedLemmas.{made_is}
use Rattle.zarrs_c_calls.proofs.RangesLacking.{answered, answered_tells, failed_tells, none_failed, plan_stopped, source_of}
use Rattle.zarrs_c_calls.proofs.rounds.lacking_read.Goals as goal

pub returns-in-Ok : goal.returns-in-Ok
returns-in-Ok c = record {
  answer = λ made sound len ps over.
      let form = decoder_form c.args.decoder in
      let before = pieces_state (handle_of c.args.decoder) in
      let selection = selection_of c.args.indexer.now in
      let source = source_of (source_made known_codecs known_reads form before.value) made in
      let is = made_is zeros len ps before over.made in
      answered_tells form len ps selection before c.into_handle.result c.in-Ok.field-0 c.partial_decode.result c.in_ok-planned.planned c.lacking_behind.result sound is over.in_part (none_failed len ps before over.made)
      c.partial_decode.ensures.reads (answered form len ps selection before c.partial_decode.result source.0 is source.1 c.partial_decode.ensures.reads.exact) (ap pieces_state c.into_handle.ensures.value ∙ c.partial_decode.ensures.left.left) c.in-Ok.is
      c.in_ok-planned.ensures.plan.is c.lacking_behind.ensures.told c.lacking_behind.ensures.memory;
}

pub returns-in-Err-Storage : goal.returns-in-Err-Storage
returns-in-Err-Storage c = record {
  answer = λ made sound len ps over.
      let form = decoder_form c.args.decoder in
      let before = pieces_state (handle_of c.args.decoder) in
      let selection = selection_of c.args.indexer.now in
      failed_tells form len ps selection before c.into_handle-in-Err-Storage.result c.partial_decode.result _ _ c.in_ok-planned.planned c.lacking_behind-in-Err-Storage.result sound (made_is zeros len ps before over.made) over.in_part
      c.partial_decode.ensures.reads (ap pieces_state c.into_handle-in-Err-Storage.ensures.value ∙ c.partial_decode.ensures.left.left) c.in-Err-Storage.is c.in-Err-Storage.field-0-is
      c.in_ok-planned.ensures.plan.is c.lacking_behind-in-Err-Storage.ensures.told c.lacking_behind-in-Err-Storage.ensures.memory;
}

pub returns-in-Err : goal.returns-in-Err
returns-in-Err c = record {
  answer = λ made sound len ps over.
      let form = decoder_form c.args.decoder in
      let state = pieces_state (handle_of c.args.decoder) in
      let selection = selection_of c.args.indexer.now in
      let source = source_of (source_made known_codecs known_reads form state.value) made in
      let quiet : fault c.in-Err.error ≡ false = search rules in
      excused_less (memory c.in-Err.error) (fault c.in-Err.error) (apart_read zeros form len ps selection ≡ Err c.in-Err.error) quiet
      (answered form len ps selection state (Err c.in-Err.error) source.0 (made_is zeros len ps state over.made) source.1 c.in-Err.ensures.reads.exact);
}

pub returns-in_err-planned : goal.returns-in_err-planned
returns-in_err-planned c = record {
  answer = λ made sound len ps over.
      let form = decoder_form c.args.decoder in
      let state = pieces_state (handle_of c.args.decoder) in
      let selection = selection_of c.args.indexer.now in
      let source = source_of (source_made known_codecs known_reads form state.value) made in
      let error = c.in_err-planned.field-0.0 in
      let p = err_from_is_err_and c.from_residual.result c.from_residual.ensures.1 in
      rw (p.1, p.2) (plan_stopped form len ps selection state source.0 error (made_is zeros len ps state over.made) source.1 c.in_err-planned.ensures.plan.is);
}
