use Rattle.std.proofs.Common.{ap, sym, ◌∙◌, [], ◌∷◌}
use Rattle.std.proofs.lemmas.Result.{err_from_is_err_and}
use Rattle.zarrs_codec.specs.ByteSpan.{ByteSpan}
use Rattle.zarrs_codec.specs.StorageState.{are_sure}
use Rattle.zarrs_codec.specs.ByteRanges.{range_indices}
use Rattle.zarrs_lent_handles.proofs.SpanLemmas.{span_whole}
use Rattle.zarrs_codecs.proofs.sharding.span_bytes.stored_bytes.Goals as goal

pub returns-in_err-partial_decode_many-in-Some-clause-sure : goal.returns-in_err-partial_decode_many-in-Some-clause-sure
returns-in_err-partial_decode_many-in-Some-clause-sure g c = λ h.
    let state = g.H.BytesPartialDecoderTraits.state c.args.handle.now in
    let p = err_from_is_err_and c.from_residual.result c.from_residual.ensures.1 in
    rw (p.1, p.2) (c.in_err-partial_decode_many-in-Some.ensures.sure (ap (λ (range : ByteSpan). are_sure state.sure (range_indices (range ∷ []))) c.in-Some.ensures.answer ∙ sym (span_whole c.args.at c.args.len state.sure state.value c.requires.inside) ∙ h))
