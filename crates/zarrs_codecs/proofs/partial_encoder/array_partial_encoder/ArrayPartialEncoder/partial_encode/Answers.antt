use Rattle.zarrs_chunk.specs.Indexer.{selection_of}
use Rattle.zarrs_codecs.specs.ChunkCoder.{coder_form}
use Rattle.zarrs_codecs.proofs.PartialReads.{is_readable}
use Rattle.zarrs_codecs.proofs.PlaceWrites.{edit_found, edit_only}
use Rattle.zarrs_codecs.proofs.partial_encoder.array_partial_encoder.ArrayPartialEncoder.partial_encode.Goals as goal

pub returns-clause-edits : goal.returns-clause-edits
returns-clause-edits g c =
    let f = g.B.BytesToBytesCodecTraits.functions in
    let d = c.args.self.now in
    let k = d.coder in
    let form = coder_form k in
    let selection = selection_of c.args.indexer.now in
    let mappings = c.is_sound.ensures.mappings in
    let positive = c.is_sound.ensures.positive in
    let h = is_readable f form.chain form.sizes form.type form.fill k.encoded k.representation mappings.mappings positive k.taken in
    record {
      found = edit_found f form k.encoded k.representation h mappings positive k.filling c.write.result (g.H.BytesPartialDecoderTraits.state d.handle).value _ selection c.args.elements.now c.write.ensures.writes.answer;
      only = edit_only f form k.encoded k.representation h mappings positive k.filling c.write.result (g.H.BytesPartialDecoderTraits.state d.handle).value _ selection c.args.elements.now c.write.ensures.writes.answer;
      exact = c.write.ensures.writes.answer;
      indexer_first = c.write.ensures.writes.indexer_first;
      checked_first = c.write.ensures.writes.checked_first;
      untouched = c.write.ensures.writes.untouched;
    }
