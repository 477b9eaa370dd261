use Rattle.std.proofs.Common.{◌≡◌, ap}
use Rattle.zarrs_chunk.specs.Answer.{is_fault, fault}
use Rattle.zarrs_chunk.specs.Indexer.{selection_of}
use Rattle.zarrs_codec.specs.MemoryHandle.{handle_value}
use Rattle.zarrs_chain.specs.ChainView.{plain_chain}
use Rattle.zarrs_codecs.specs.PartialDecoder.{decoder_form, handle_of, decoder_source}
use Rattle.zarrs_json.specs.KnownBytesCodec.{known_codecs, known_reads}
use Rattle.zarrs_codecs.proofs.MadeCoders.{no_fault, read_made, read_unmade}
use Rattle.zarrs_tool_lines.proofs.session.read_part.Goals as goal

pub returns-in-Err-clause-answer : goal.returns-in-Err-clause-answer
returns-in-Err-clause-answer c =
    read_unmade known_codecs known_reads (record { chain = plain_chain c.args.header.now.chain; sizes = c.args.header.now.shape; type = c.args.header.now.data_type; fill = c.args.header.now.fill_value }) (handle_value c.args.handle.now) (selection_of c.args.indexer.now) c.in-Err.refused.error
    (no_fault (fault c.in-Err.refused.error) (ap (λ s. s.faults) c.in-Err.ensures.handed_left)) c.in-Err.ensures.answer

pub returns-in-Ok-clause-answer : goal.returns-in-Ok-clause-answer
returns-in-Ok-clause-answer c =
    let over : handle_value (handle_of c.in-Ok.decoder).now ≡ handle_value c.args.handle.now = ap (λ s. s.value) c.in-Ok.ensures.over_state in
    read_made known_codecs known_reads (record { chain = plain_chain c.args.header.now.chain; sizes = c.args.header.now.shape; type = c.args.header.now.data_type; fill = c.args.header.now.fill_value }) (decoder_form c.in-Ok.decoder) (handle_value c.args.handle.now) (handle_value (handle_of c.in-Ok.decoder).now)
    (selection_of c.args.indexer.now) c.partial_decode-elements.result (decoder_source c.in-Ok.decoder (handle_value c.args.handle.now)) c.in-Ok.ensures.form over c.in-Ok.ensures.answer
    (no_fault (is_fault c.partial_decode-elements.result) (ap (λ s. s.faults) c.partial_decode-elements.ensures.left.left)) c.partial_decode-elements.ensures.reads.exact
