use Rattle.std.proofs.Common.{◌≡◌, true, false, Result, List, ℕ, IfOk, sym, subst}
use Rattle.std.proofs.lemmas.Result.{err_from_is_err_and}
use Rattle.zarrs_array_bytes.specs.Held.{items_of}
use Rattle.zarrs_chain.specs.ChainView.{plain_codec}
use Rattle.zarrs_chain_meaning.proofs.ArraySteps.{ok_is}
use Rattle.zarrs_chunk.specs.Answer.{is_fault}
use Rattle.zarrs_chunk.specs.Runs.{joined_runs}
use Rattle.zarrs_chunk.specs.declared.codec_error.CodecError.{CodecError}
use Rattle.zarrs_codec.specs.StorageState.{are_sure}
use Rattle.zarrs_codecs.specs.SpanReads.{seen_state}
use Rattle.zarrs_codecs.proofs.LawfulPart.{part_laws}
use Rattle.zarrs_codecs.proofs.LeafReads.{wholly_answered}
use Rattle.zarrs_codecs.proofs.sharding.leaf_reads.whole_in_span.Goals as goal

pub returns-in_err-value-clause-sure : goal.returns-in_err-value-clause-sure
returns-in_err-value-clause-sure g c =
    let f = g.B.BytesToBytesCodecTraits.functions in
    let state = seen_state c.args.span.now (g.H.BytesPartialDecoderTraits.state c.args.handle.now) in
    let p = err_from_is_err_and c.from_residual.result c.from_residual.ensures.1 in
    subst (λ (r : Result (List ℕ) CodecError). IfOk r (λ numbers. are_sure state.sure numbers ≡ true → is_fault c.from_residual.result ≡ false)) (sym ((part_laws (plain_codec c.args.codec.now)).rests_wholly f c.args.form.shape.now c.args.form.data_type.now c.args.form.fill_value.now state.value (joined_runs c.args.runs.now) c.requires.whole))
    (λ h. rw (p.1, p.2) (c.in_err-value.ensures.sure h))

pub returns-clause-answer : goal.returns-clause-answer
returns-clause-answer g c =
    let state = seen_state c.args.span.now (g.H.BytesPartialDecoderTraits.state c.args.handle.now) in
    wholly_answered g.B.BytesToBytesCodecTraits.functions (plain_codec c.args.codec.now) c.args.form.shape.now c.args.form.data_type.now c.args.form.fill_value.now state.value (items_of c.in_ok-value.value) (joined_runs c.args.runs.now) c.runs_of_bytes.result c.requires.whole (ok_is _ _ c.in_ok-value.ensures.answer) c.runs_of_bytes.ensures.answer.is
