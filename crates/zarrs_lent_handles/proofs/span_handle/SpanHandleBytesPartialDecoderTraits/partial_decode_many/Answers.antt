use Rattle.std.proofs.Common.{ap, sym, subst, ◌∙◌, List}
use Rattle.zarrs_codec.specs.ByteRanges.{range_indices, read_ranges}
use Rattle.zarrs_codec.specs.ByteSpan.{ByteSpan}
use Rattle.zarrs_codec.specs.HandleCalls.{ReadsBytes}
use Rattle.zarrs_codec.specs.StorageState.{are_sure}
use Rattle.zarrs_lent_handles.proofs.SpanLemmas.{span_read, span_refused, span_sure}
use Rattle.zarrs_lent_handles.proofs.span_handle.SpanHandleBytesPartialDecoderTraits.partial_decode_many.Goals as goal

pub returns-then-not-are_inside-clause-answer : goal.returns-then-not-are_inside-clause-answer
returns-then-not-are_inside-clause-answer g c = λ _.
    let handle = c.args.self.now in
    let state = g.H.BytesPartialDecoderTraits.state handle.handle.now in
    span_refused handle.at handle.len state.value c.args.ranges.now handle.inside (sym c.if-not-are_inside.ensures.value)

pub returns-clause-answer : goal.returns-clause-answer
returns-clause-answer g c =
    let handle = c.args.self.now in
    let state = g.H.BytesPartialDecoderTraits.state handle.handle.now in
    let same = ap (read_ranges state.value) (c.as_slice.ensures.value ∙ c.in_ok-moved.ensures.value) in
    subst (ReadsBytes c.partial_decode_many.result) (same ∙ sym (span_read handle.at handle.len state.value c.args.ranges.now handle.inside (sym c.if-not-are_inside.ensures.value))) c.partial_decode_many.ensures.answer

pub returns-clause-sure : goal.returns-clause-sure
returns-clause-sure g c = λ h.
    let handle = c.args.self.now in
    let state = g.H.BytesPartialDecoderTraits.state handle.handle.now in
    c.partial_decode_many.ensures.sure (ap (λ (ranges : List ByteSpan). are_sure state.sure (range_indices ranges)) (c.as_slice.ensures.value ∙ c.in_ok-moved.ensures.value) ∙ sym (span_sure handle.at state.sure c.args.ranges.now) ∙ h)
