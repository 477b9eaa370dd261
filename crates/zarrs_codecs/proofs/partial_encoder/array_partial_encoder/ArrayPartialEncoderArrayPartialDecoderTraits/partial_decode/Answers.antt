use Rattle.std.proofs.Common.{false}
use Rattle.zarrs_chunk.specs.Indexer.{selection_of}
use Rattle.zarrs_codecs.specs.PartialEncoder.{encoder_form, encoder_handle}
use Rattle.zarrs_codecs.proofs.SureReads.{surely}
use Rattle.zarrs_codecs.proofs.partial_encoder.array_partial_encoder.ArrayPartialEncoderArrayPartialDecoderTraits.partial_decode.Goals as goal

pub returns-clause-sure : goal.returns-clause-sure
returns-clause-sure g c =
    let e = c.args.self.now in
    surely g.B.BytesToBytesCodecTraits.functions (encoder_form e) (g.H.BytesPartialDecoderTraits.state (encoder_handle e)) (selection_of c.args.indexer.now) _ false (λ h. absurd (cc)) c.partial_decode.ensures.reads.sure
