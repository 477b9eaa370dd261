use Rattle.std.proofs.Common.{rules, ◌<◌, ap, sym, ◌∙◌, subst}
use Rattle.std.specs.List.{All}
use Rattle.zarrs_chunk.specs.Answer.{AnswersBy, memory_or_fault}
use Rattle.zarrs_chunk.specs.Indexer.{selection_of}
use Rattle.zarrs_chunk.specs.Runs.{joined_runs}
use Rattle.zarrs_array_bytes.specs.Validity.{Holds}
use Rattle.zarrs_bytes.proofs.Coding.{ok}
use Rattle.zarrs_codecs.specs.vlen.VlenPartialDecoder.{codec_stored_read, vlen_form}
use Rattle.zarrs_codecs.proofs.VlenReads.{vlen_fills, vlen_selects, where_sure}
use Rattle.zarrs_codecs.proofs.vlen.vlen_partial_decoder.VlenPartialDecoder.partial_decode.Goals as goal

pub returns-in_err-runs-clause-reads : goal.returns-in_err-runs-clause-reads
returns-in_err-runs-clause-reads g c =
    let f = g.B.BytesToBytesCodecTraits.functions in
    let d = c.args.self.now in
    let stored = (g.H.BytesPartialDecoderTraits.state d.handle).value in
    let selection = selection_of c.args.indexer.now in
    let positive = subst (All (λ size. 0 < size)) c.as_slice.ensures.value c.as_slice.ensures.positive in
    let exact : AnswersBy memory_or_fault (Holds d.data_type) c.from_residual.result (codec_stored_read f (vlen_form d) stored selection) = search rules in
    record {
      selected = (λ value chunk here stands.
          subst (λ expected. AnswersBy memory_or_fault (Holds d.data_type) c.from_residual.result expected)
          (ap (λ stored. codec_stored_read f (vlen_form d) stored selection) here ∙ vlen_selects f d.codec.now d.shape d.data_type d.fill_value value chunk selection c.vlen_is_sound.ensures.mappings positive d.taken stands)
          exact);
      unstored = (λ here.
          subst (λ expected. AnswersBy memory_or_fault (Holds d.data_type) c.from_residual.result expected)
          (ap (λ stored. codec_stored_read f (vlen_form d) stored selection) here ∙ vlen_fills f d.codec.now d.shape d.data_type d.fill_value selection d.taken)
          exact);
      exact = exact;
      indexer_first = search rules;
      sure = search rules;
    }

pub returns-clause-reads : goal.returns-clause-reads
returns-clause-reads g c =
    let f = g.B.BytesToBytesCodecTraits.functions in
    let d = c.args.self.now in
    let before = g.H.BytesPartialDecoderTraits.state d.handle in
    let selection = selection_of c.args.indexer.now in
    let positive = subst (All (λ size. 0 < size)) c.as_slice.ensures.value c.as_slice.ensures.positive in
    let places = c.in_ok-runs.ensures.places.is ∙ ap (λ rs. ok (joined_runs rs)) (sym c.deref.ensures.value) in
    let exact : AnswersBy memory_or_fault (Holds d.data_type) c.vlen_runs.result (codec_stored_read f (vlen_form d) before.value selection) = search rules in
    record {
      selected = (λ value chunk here stands.
          subst (λ expected. AnswersBy memory_or_fault (Holds d.data_type) c.vlen_runs.result expected)
          (ap (λ stored. codec_stored_read f (vlen_form d) stored selection) here ∙ vlen_selects f d.codec.now d.shape d.data_type d.fill_value value chunk selection c.vlen_is_sound.ensures.mappings positive d.taken stands)
          exact);
      unstored = (λ here.
          subst (λ expected. AnswersBy memory_or_fault (Holds d.data_type) c.vlen_runs.result expected)
          (ap (λ stored. codec_stored_read f (vlen_form d) stored selection) here ∙ vlen_fills f d.codec.now d.shape d.data_type d.fill_value selection d.taken)
          exact);
      exact = exact;
      indexer_first = search rules;
      sure = where_sure f (vlen_form d) before selection _ (joined_runs c.deref.result.now) places c.vlen_runs.ensures.sure;
    }
