use Rattle.std.proofs.Common.{Err, refl}
use Rattle.zarrs_chunk.specs.Indexer.{selection_of}
use Rattle.zarrs_codecs.specs.PartialDecoder.{decoder_form, decoder_source, handle_of, made}
use Rattle.zarrs_lent_handles.specs.Pieces.{zeros}
use Rattle.zarrs_lent_handles.specs.PiecesHandle.{pieces_state}
use Rattle.zarrs_c_calls.specs.Reads.{form_seen}
use Rattle.zarrs_c_calls.proofs.FetchedLemmas.{made_is}
use Rattle.zarrs_c_calls.proofs.RangesLacking.{made_answered, unmade_answered}
use Rattle.zarrs_c_calls.proofs.rounds.lacking_of.Goals as goal

pub returns-in-Err : goal.returns-in-Err
returns-in-Err c = record {
  answer = λ sound len ps over.
      let before = pieces_state c.args.handle in
      unmade_answered c.partial_decoder.result (form_seen c.args.form.now) len ps (selection_of c.args.indexer.now) before c.in-Err.refused.handle c.in-Err.refused.error (made (Err c.in-Err.refused)) c.lacking_made.result (made_is zeros len ps before over.made) over.in_part
      c.in-Err.ensures.handed_left refl c.in-Err.ensures.no_fault_if_in_part c.lacking_made.ensures.answer c.in-Err.ensures.answer;
}

pub returns-in-Ok : goal.returns-in-Ok
returns-in-Ok c =
    let decoder = c.in-Ok.decoder in
    record { answer = made_answered (form_seen c.args.form.now) (decoder_form decoder) c.args.handle (handle_of decoder) (selection_of c.args.indexer.now) c.lacking_read.result (decoder_source decoder (pieces_state c.args.handle).value) c.in-Ok.ensures.form c.in-Ok.ensures.over_state c.in-Ok.ensures.answer c.lacking_read.ensures.answer }
