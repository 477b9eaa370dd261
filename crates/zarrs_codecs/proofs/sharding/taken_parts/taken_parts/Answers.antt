use Rattle.zarrs_chain.specs.ChainView.{plain_sharding}
use Rattle.zarrs_codecs.proofs.ShardParts.{is_ok_so}
use Rattle.zarrs_codecs.proofs.ShardSpans.{shard_takes}
use Rattle.zarrs_codecs.proofs.sharding.taken_parts.taken_parts.Goals as goal

pub shard_form-requires : goal.shard_form-requires
shard_form-requires g c =
    let P = c.sharding_parts-parts.result in
    record { taken = shard_takes g.B.BytesToBytesCodecTraits.functions (plain_sharding c.args.codec.now) P.codecs.now P.index_codecs.now P.chunk_shape.now P.is_index_at_end c.args.form.shape.now c.args.form.data_type.now c.args.form.fill_value.now c.sharding_parts-parts.ensures.parts (is_ok_so _ c.requires.taken) }
