use Rattle.std.proofs.Common.{◌<◌, subst}
use Rattle.std.specs.List.{All}
use Rattle.zarrs_chunk.specs.ChunkShape.{product}
use Rattle.zarrs_shard_bytes.proofs.Sizes.{fewer_fit, inner_smaller}
use Rattle.zarrs_chain.proofs.sharding.shard_bands.blank_chunk.Goals as goal

pub blank_inner_chunk-requires-clause-room : goal.blank_inner_chunk-requires-clause-room
blank_inner_chunk-requires-clause-room c =
    let inner = c.args.inner.now in
    let shape = c.args.form.shape.now in
    let parts_positive : All (λ part. 0 < part) inner = subst (All (λ part. 0 < part)) c.as_slice.ensures.value c.as_slice.ensures.positive in
    let positive : All (λ part. 0 < part) shape = subst (All (λ part. 0 < part)) c.as_slice-2.ensures.value c.as_slice-2.ensures.positive in
    fewer_fit c.args.form.data_type.now (product inner) (product shape) (inner_smaller inner shape parts_positive positive c.requires.form.divided) c.requires.form.room
