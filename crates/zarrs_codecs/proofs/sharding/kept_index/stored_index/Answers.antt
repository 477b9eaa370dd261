use Rattle.std.proofs.Common.{◌≡◌, Some, sym, subst, ◌∙◌}
use Rattle.zarrs_chain.specs.ChainView.{plain_sharding}
use Rattle.zarrs_chain_meaning.proofs.ArraySteps.{ok_is}
use Rattle.zarrs_chain_meaning.specs.sharding.InnerChunks.{inner_chunk_count}
use Rattle.zarrs_codec.specs.StorageState.{value_size}
use Rattle.zarrs_codecs.proofs.ShardParts.{grid_known, index_measured, stored_shard}
use Rattle.zarrs_codecs.proofs.StoredIndex.{two_each, whole_stands}
use Rattle.zarrs_codecs.specs.SpanReads.{StandsIn}
use Rattle.zarrs_codecs.proofs.sharding.kept_index.stored_index.Goals as goal

pub index_numbers-requires : goal.index_numbers-requires
index_numbers-requires g c =
    let f = g.B.BytesToBytesCodecTraits.functions in
    let P = c.taken_parts-at_end.result in
    let codec = plain_sharding c.args.codec.now in
    let state = g.H.BytesPartialDecoderTraits.state c.args.handle.now in
    let sized : value_size state.value ≡ Some c.in-Some.len = ok_is _ _ c.in_ok-size.ensures.answer ∙ c.in-Some.is in
    let stands = whole_stands c.stored-span.result c.in-Some.len state c.stored-span.ensures.parts sized in
    let shard = stored_shard f codec P.codecs.now P.index_codecs.now P.chunk_shape.now P.is_index_at_end c.args.form.shape.now c.args.form.data_type.now c.args.form.fill_value.now c.stored-span.result state c.taken_parts-at_end.ensures.parts c.requires.taken stands in
    record {
      grid = grid_known shard;
      measured = index_measured shard;
      stands = subst (λ s. StandsIn c.stored-span.result s) (sym c.in_ok-size.ensures.left) stands;
    }

pub invariant_of-result : goal.invariant_of-result
invariant_of-result g c =
    let P = c.taken_parts-at_end.result in
    record { count = two_each (inner_chunk_count P.chunk_shape.now c.args.form.shape.now) c.in_ok-numbers-in-Some.numbers.items ((c.in_ok-numbers-in-Some.ensures {u = tt}).len) }
