use Rattle.std.proofs.Common.{◌≡◌, Some, subst, ◌∙◌}
use Rattle.zarrs_chain.specs.ChainView.{plain_sharding}
use Rattle.zarrs_chain_meaning.proofs.ArraySteps.{ok_is}
use Rattle.zarrs_chunk.specs.Runs.{joined_runs}
use Rattle.zarrs_codec.specs.StorageState.{StorageState, value_size}
use Rattle.zarrs_codecs.proofs.SpanChains.{where_sure_runs}
use Rattle.zarrs_codecs.proofs.WholeSpans.{stored_seen}
use Rattle.zarrs_codecs.specs.CodecPart.{codec_rests_on}
use Rattle.zarrs_codecs.specs.SpanReads.{SureWhere, seen_state}
use Rattle.zarrs_codecs.proofs.sharding.shard_runs.shard_runs.Goals as goal

pub returns-in-Some-clause-sure : goal.returns-in-Some-clause-sure
returns-in-Some-clause-sure g c =
    let f = g.B.BytesToBytesCodecTraits.functions in
    let state = g.H.BytesPartialDecoderTraits.state c.args.handle.now in
    let left = c.in_ok-size.ensures.left in
    let sized : value_size state.value ≡ Some c.in-Some.len = ok_is _ _ c.in_ok-size.ensures.answer ∙ c.in-Some.is in
    let same = stored_seen c.stored-span.result c.in-Some.len state c.stored-span.ensures.parts sized in
    where_sure_runs state.sure _ (codec_rests_on f (plain_sharding c.args.codec.now) c.args.form.shape.now c.args.form.data_type.now c.args.form.fill_value.now state.value (joined_runs c.args.runs.now))
    (subst (λ (s : StorageState). SureWhere s (codec_rests_on f (plain_sharding c.args.codec.now) c.args.form.shape.now c.args.form.data_type.now c.args.form.fill_value.now s.value (joined_runs c.args.runs.now)) c.shard_ahead.result) same (subst (λ (st : StorageState). SureWhere (seen_state c.stored-span.result st) (codec_rests_on f (plain_sharding c.args.codec.now) c.args.form.shape.now c.args.form.data_type.now c.args.form.fill_value.now (seen_state c.stored-span.result st).value (joined_runs c.args.runs.now)) c.shard_ahead.result) left c.shard_ahead.ensures.sure))
