use Rattle.std.proofs.Common.{◌≡◌, Some, Option, ℕ, true, false, option_map, ap, subst, ◌∙◌}
use Rattle.zarrs_bytes.proofs.Coding.{ok}
use Rattle.zarrs_chain.specs.ChainView.{plain_sharding}
use Rattle.zarrs_chain_meaning.specs.sharding.Sharding.{spans_of}
use Rattle.zarrs_chunk.specs.Answer.{is_fault}
use Rattle.zarrs_chunk.specs.Runs.{joined_runs}
use Rattle.zarrs_codec.specs.StorageState.{StorageState, value_size}
use Rattle.zarrs_codecs.proofs.IndexReads.{index_stored}
use Rattle.zarrs_codecs.proofs.WholeSpans.{stored_seen}
use Rattle.zarrs_codecs.specs.ChunkRead.{are_given_sure}
use Rattle.zarrs_codecs.specs.KeptIndex.{index_seen}
use Rattle.zarrs_codecs.specs.declared.sharding.shard_index.ShardIndex.{ShardIndex}
use Rattle.zarrs_codecs.proofs.sharding.kept_index.runs_by_index.Goals as goal
use Rattle.zarrs_codecs.specs.CodecPart.{rests_where}

pub returns-in-Some-clause-sure : goal.returns-in-Some-clause-sure
returns-in-Some-clause-sure g c =
    let f = g.B.BytesToBytesCodecTraits.functions in
    let codec = plain_sharding c.args.codec.now in
    let state = g.H.BytesPartialDecoderTraits.state c.args.handle.now in
    let index = c.in-Some.index in
    let found = index_stored f codec c.args.form.shape.now state.value index.len (spans_of index.numbers.items) (c.requires.index ∙ ap (λ (i : Option ShardIndex). ok (option_map index_seen i)) c.in-Some.is) in
    let sized : value_size state.value ≡ Some index.len = ap value_size found.is ∙ ap (λ (n : ℕ). Some n) found.long in
    subst (λ (s : StorageState). are_given_sure s.sure (rests_where true f codec c.args.form.shape.now c.args.form.data_type.now c.args.form.fill_value.now s.value (joined_runs c.args.runs.now)) ≡ true → is_fault c.index_ahead.result ≡ false)
    (stored_seen c.stored-span.result index.len state c.stored-span.ensures.parts sized) c.index_ahead.ensures.sure
