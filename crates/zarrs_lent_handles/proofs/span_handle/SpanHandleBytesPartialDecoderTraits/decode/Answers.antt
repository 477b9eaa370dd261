use Rattle.std.proofs.Common.{ap, sym, ◌∙◌}
use Rattle.zarrs_codec.specs.ByteSpan.{ByteSpan}
use Rattle.zarrs_codec.specs.StorageState.{are_sure}
use Rattle.zarrs_codec.specs.ByteRanges.{range_indices}
use Rattle.std.proofs.Common.{[], ◌∷◌}
use Rattle.zarrs_lent_handles.proofs.SpanLemmas.{span_whole}
use Rattle.zarrs_lent_handles.proofs.span_handle.SpanHandleBytesPartialDecoderTraits.decode.Goals as goal

pub returns-clause-sure : goal.returns-clause-sure
returns-clause-sure g c = λ h.
    let handle = c.args.self.now in
    let state = g.H.BytesPartialDecoderTraits.state handle.handle.now in
    c.partial_decode_many.ensures.sure (ap (λ (range : ByteSpan). are_sure state.sure (range_indices (range ∷ []))) c.in-Some.ensures.answer ∙ sym (span_whole handle.at handle.len state.sure state.value handle.inside) ∙ h)
