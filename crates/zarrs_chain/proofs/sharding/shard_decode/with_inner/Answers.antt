use Rattle.std.proofs.Common.{ap, sym, ◌∙◌}
use Rattle.zarrs_chunk.specs.ChunkShape.{product}
use Rattle.zarrs_chunk.specs.Runs.{joined_runs, places_in}
use Rattle.zarrs_chain_meaning.specs.sharding.InnerChunks.{inner_chunk_places}
use Rattle.zarrs_chain_meaning.proofs.ArraySteps.{ok_is}
use Rattle.zarrs_chain.proofs.ShardReading.{inner_replaced}
use Rattle.zarrs_shard_bytes.proofs.Sizes.{count_is}
use Rattle.zarrs_chain.proofs.sharding.shard_decode.with_inner.Goals as goal

pub returns-clause-answer : goal.returns-clause-answer
returns-clause-answer c =
    let shape = c.args.inner.now in
    let sizes = c.args.shape.now in
    let runs = c.in_ok-runs.runs in
    let count = count_is (product sizes) c.in_ok-count.count c.requires.counted c.in_ok-count.ensures.answer in
    let places = ap joined_runs c.as_slice.ensures.value ∙ sym (ok_is (inner_chunk_places shape sizes c.args.number) (places_in runs) c.in_ok-runs.ensures.places.is) in
    inner_replaced c.args.data_type.now shape sizes (joined_runs c.as_slice.result.now) c.args.number c.in_ok-count.count c.args.elements c.args.content.now c.update_runs.result count places c.requires.valid c.requires.content_valid c.update_runs.ensures.answer
