use Rattle.std.proofs.Common.{◌<◌, IfOk, ap, subst}
use Rattle.std.specs.List.{All}
use Rattle.zarrs_codecs.specs.Indexer.{selection_of}
use Rattle.zarrs_codecs.specs.Tight.{IsTight}
use Rattle.zarrs_codecs.specs.ChunkForm.{ChunkForm}
use Rattle.zarrs_codecs.specs.ChunkRead.{chunk_of}
use Rattle.zarrs_codecs.specs.PartialDecoder.{decoder_form, decoder_source, handle_of}
use Rattle.zarrs_uses.proofs.WindowReads.{made_so, read_so, unmade, unopened}
use Rattle.zarrs_uses.proofs.windows.read_selected.Goals as goal

pub returns-in-Err : goal.returns-in-Err
returns-in-Err g c =
    let f = g.B.BytesToBytesCodecTraits.functions in
    let reads = g.B.BytesToBytesCodecTraits.reads_in_part in
    let chunk = chunk_of c.args.chain.now c.args.shape.now c.args.data_type.now c.args.fill_value.now in
    let stored = (g.H.BytesPartialDecoderTraits.state c.args.handle.now).value in
    let selection = selection_of c.args.indexer.now in
    let positive = subst (All (λ size. 0 < size)) c.as_slice.ensures.value c.as_slice.ensures.positive in
    record {
      selected = unopened f reads chunk stored selection c.in-Err.refused.error c.in-Err.ensures.answer c.chain_is_sound.ensures.mappings positive (c.standing_is_opened.ensures.law f);
      exact = unmade f reads chunk stored selection c.in-Err.refused.error c.in-Err.ensures.answer;
      tight = tt;
    }

pub returns-in-Ok : goal.returns-in-Ok
returns-in-Ok g c =
    let f = g.B.BytesToBytesCodecTraits.functions in
    let reads = g.B.BytesToBytesCodecTraits.reads_in_part in
    let chunk = chunk_of c.args.chain.now c.args.shape.now c.args.data_type.now c.args.fill_value.now in
    let state = g.H.BytesPartialDecoderTraits.state in
    let decoder = c.in-Ok.decoder in
    let before = (state c.args.handle.now).value in
    let inside = (state (handle_of decoder).now).value in
    let selection = selection_of c.args.indexer.now in
    let over = ap (λ s. s.value) c.in-Ok.ensures.over_state in
    record {
      selected = read_so f (decoder_form decoder) chunk inside before selection c.partial_decode.result c.in-Ok.ensures.form over c.partial_decode.ensures.reads.selected;
      exact = made_so f reads (decoder_form decoder) chunk inside before selection c.partial_decode.result (decoder_source decoder before) c.in-Ok.ensures.form over c.in-Ok.ensures.answer c.partial_decode.ensures.reads.exact;
      tight = subst (λ (form : ChunkForm _). IfOk c.partial_decode.result (IsTight form.type)) {y = chunk} c.in-Ok.ensures.form c.partial_decode.ensures.tight;
    }
