use Rattle.zarrs_chunk.specs.Indexer.{selection_of}
use Rattle.zarrs_codecs.specs.PartialDecoder.{decoder_form, handle_of, is_cached}
use Rattle.zarrs_codecs.proofs.SureReads.{surely}
use Rattle.zarrs_codecs.proofs.partial_decoder.array_partial_decoder.ArrayPartialDecoderArrayPartialDecoderTraits.partial_decode.Goals as goal

pub returns-clause-sure : goal.returns-clause-sure
returns-clause-sure g c =
    let d = c.args.self.now in
    surely g.B.BytesToBytesCodecTraits.functions (decoder_form d) (g.H.BytesPartialDecoderTraits.state (handle_of d)) (selection_of c.args.indexer.now) _ (is_cached d) c.partial_decode.ensures.no_fault_if_cached c.partial_decode.ensures.reads.sure
