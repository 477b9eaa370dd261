use Rattle.zarrs_chunk.specs.Indexer.{selection_of}
use Rattle.zarrs_codecs.specs.vlen.VlenPartialDecoder.{vlen_form, vlen_handle_of}
use Rattle.zarrs_codecs.proofs.SureReads.{codec_surely}
use Rattle.zarrs_codecs.proofs.vlen.vlen_partial_decoder.VlenPartialDecoderArrayPartialDecoderTraits.partial_decode.Goals as goal

pub returns-clause-sure : goal.returns-clause-sure
returns-clause-sure g c =
    let d = c.args.self.now in
    codec_surely g.B.BytesToBytesCodecTraits.functions (vlen_form d) (g.H.BytesPartialDecoderTraits.state (vlen_handle_of d)) (selection_of c.args.indexer.now) _ c.partial_decode.ensures.reads.sure
