use Rattle.std.proofs.Common.{◌≡◌, ℕ, ◌<◌, ◌^◌, List, ap, sym, subst, ◌∙◌}
use Rattle.std.proofs.lemmas.Result.{err_from_is_err_and}
use Rattle.zarrs_chain.specs.ChainView.{plain_sharding}
use Rattle.zarrs_chain_meaning.proofs.ArraySteps.{ok_is, ok_no_err}
use Rattle.zarrs_chain_meaning.specs.sharding.InnerChunks.{grid}
use Rattle.zarrs_chunk.specs.ChunkShape.{product}
use Rattle.zarrs_codecs.proofs.GroupedShards.{counted}
use Rattle.zarrs_codecs.proofs.PartedShards.{box_few, chunks_counted, found_parts, parted_shard, parts_answered, parts_sure, placed_parts, shard_parts}
use Rattle.zarrs_codecs.proofs.PlaceWrites.{memory_too}
use Rattle.zarrs_codecs.proofs.ShardParts.{grid_known, inner_taken, stored_shard}
use Rattle.zarrs_codecs.proofs.TakenChains.{inner_parts, inner_sizes, parts_rested}
use Rattle.zarrs_codecs.specs.BoxReads.{AreShardParts}
use Rattle.zarrs_codecs.specs.SpanReads.{seen_state}
use Rattle.zarrs_grid.specs.RegionParts.{AreRegionParts}
use Rattle.zarrs_codecs.proofs.sharding.box_reads.box_by_parts.Goals as goal

pub returns-in_err-taken-clause-answer : goal.returns-in_err-taken-clause-answer
returns-in_err-taken-clause-answer g c =
    let P = c.taken_parts.result in
    let sizes = c.args.form.shape.now in
    let region = c.args.region.now in
    let form = c.taken_parts.ensures.form in
    let shard = stored_shard g.B.BytesToBytesCodecTraits.functions (plain_sharding c.args.codec.now) P.codecs.now P.index_codecs.now P.chunk_shape.now P.is_index_at_end sizes c.args.form.data_type.now c.args.form.fill_value.now c.args.span.now (g.H.BytesPartialDecoderTraits.state c.args.handle.now) c.taken_parts.ensures.parts c.requires.taken c.requires.stands in
    let p = err_from_is_err_and c.from_residual-in_err-taken.result c.from_residual-in_err-taken.ensures.1 in
    rw (p.1, p.2) (λ unexcused. absurd (inner_taken shard c.in_err-taken.field-0.0 (c.in_err-taken.ensures.answer.is (memory_too c.in_err-taken.field-0.0 unexcused))))

pub returns-in_err-grid-clause-answer : goal.returns-in_err-grid-clause-answer
returns-in_err-grid-clause-answer g c =
    let P = c.taken_parts.result in
    let sizes = c.args.form.shape.now in
    let region = c.args.region.now in
    let form = c.taken_parts.ensures.form in
    let shard = stored_shard g.B.BytesToBytesCodecTraits.functions (plain_sharding c.args.codec.now) P.codecs.now P.index_codecs.now P.chunk_shape.now P.is_index_at_end sizes c.args.form.data_type.now c.args.form.fill_value.now c.args.span.now (g.H.BytesPartialDecoderTraits.state c.args.handle.now) c.taken_parts.ensures.parts c.requires.taken c.requires.stands in
    let p = err_from_is_err_and c.from_residual-in_err-grid.result c.from_residual-in_err-grid.ensures.1 in
    rw (p.1, p.2) (λ unexcused. absurd (ok_no_err (grid P.chunk_shape.now sizes) c.in_err-grid.field-0.0 (sym (grid_known shard) ∙ c.in_err-grid.ensures.answer.is (memory_too c.in_err-grid.field-0.0 unexcused))))

pub returns-in_err-parts-clause-answer : goal.returns-in_err-parts-clause-answer
returns-in_err-parts-clause-answer g c =
    let P = c.taken_parts.result in
    let sizes = c.args.form.shape.now in
    let region = c.args.region.now in
    let form = c.taken_parts.ensures.form in
    let taken = c.in_ok-taken.taken in
    let same = (c.in_ok-taken.ensures {u = tt}).form in
    let known = chunks_counted P.chunk_shape.now sizes region _ (inner_sizes taken same) taken.positive form.divided form.small c.requires.inside c.requires.filled in
    let p = err_from_is_err_and c.from_residual-in_err-parts.result c.from_residual-in_err-parts.ensures.1 in
    rw (p.1, p.2) (λ unexcused. absurd (ok_no_err known.0 c.in_err-parts.field-0.0 (sym known.1 ∙ c.in_err-parts.ensures.answer.is (memory_too c.in_err-parts.field-0.0 unexcused))))

pub read_parts-requires-clause-lengths : goal.read_parts-requires-clause-lengths
read_parts-requires-clause-lengths g c =
    let form = c.taken_parts.ensures.form in
    subst (λ (xs : List ℕ). product xs < 2 ^ 64) (ok_is c.args.region.now.lengths c.in_ok-lengths.lengths ((c.in_ok-lengths.ensures {u = tt}).answer)) (box_few c.args.form.shape.now c.args.region.now form.small c.requires.inside)

pub read_parts-requires-clause-parts : goal.read_parts-requires-clause-parts
read_parts-requires-clause-parts g c =
    let P = c.taken_parts.result in
    let sizes = c.args.form.shape.now in
    let region = c.args.region.now in
    let form = c.taken_parts.ensures.form in
    let shard = stored_shard g.B.BytesToBytesCodecTraits.functions (plain_sharding c.args.codec.now) P.codecs.now P.index_codecs.now P.chunk_shape.now P.is_index_at_end sizes c.args.form.data_type.now c.args.form.fill_value.now c.args.span.now (g.H.BytesPartialDecoderTraits.state c.args.handle.now) c.taken_parts.ensures.parts c.requires.taken c.requires.stands in
    let taken = c.in_ok-taken.taken in
    let same = (c.in_ok-taken.ensures {u = tt}).form in
    let are = subst (AreRegionParts P.chunk_shape.now region) (sym c.as_slice-parts.ensures.value) (found_parts P.chunk_shape.now region c.in_ok-parts.parts.items ((c.in_ok-parts.ensures {u = tt}).answer.is)) in
    let it = parted_shard shard c.args.numbers.now region _ c.as_slice-parts.result.now c.requires.index (inner_sizes taken same) taken.positive form.divided form.small c.requires.inside c.requires.filled are in
    let grid_is : grid P.chunk_shape.now sizes ≡ c.in_ok-grid.grid = ok_is (grid P.chunk_shape.now sizes) c.in_ok-grid.grid (sym (grid_known shard) ∙ (c.in_ok-grid.ensures {u = tt}).answer.is) in
    let lengths_are : region.lengths ≡ c.in_ok-lengths.lengths = ok_is region.lengths c.in_ok-lengths.lengths ((c.in_ok-lengths.ensures {u = tt}).answer) in
    subst (λ shape. AreShardParts shape c.in_ok-grid.grid c.in_ok-lengths.lengths c.as_slice-parts.result.now) (sym (inner_sizes taken same)) (placed_parts grid_is lengths_are (shard_parts it))

pub read_parts-requires-clause-count : goal.read_parts-requires-clause-count
read_parts-requires-clause-count g c =
    let P = c.taken_parts.result in
    let sizes = c.args.form.shape.now in
    let region = c.args.region.now in
    let form = c.taken_parts.ensures.form in
    let shard = stored_shard g.B.BytesToBytesCodecTraits.functions (plain_sharding c.args.codec.now) P.codecs.now P.index_codecs.now P.chunk_shape.now P.is_index_at_end sizes c.args.form.data_type.now c.args.form.fill_value.now c.args.span.now (g.H.BytesPartialDecoderTraits.state c.args.handle.now) c.taken_parts.ensures.parts c.requires.taken c.requires.stands in
    let taken = c.in_ok-taken.taken in
    let same = (c.in_ok-taken.ensures {u = tt}).form in
    let are = subst (AreRegionParts P.chunk_shape.now region) (sym c.as_slice-parts.ensures.value) (found_parts P.chunk_shape.now region c.in_ok-parts.parts.items ((c.in_ok-parts.ensures {u = tt}).answer.is)) in
    let it = parted_shard shard c.args.numbers.now region _ c.as_slice-parts.result.now c.requires.index (inner_sizes taken same) taken.positive form.divided form.small c.requires.inside c.requires.filled are in
    let grid_is : grid P.chunk_shape.now sizes ≡ c.in_ok-grid.grid = ok_is (grid P.chunk_shape.now sizes) c.in_ok-grid.grid (sym (grid_known shard) ∙ (c.in_ok-grid.ensures {u = tt}).answer.is) in
    let lengths_are : region.lengths ≡ c.in_ok-lengths.lengths = ok_is region.lengths c.in_ok-lengths.lengths ((c.in_ok-lengths.ensures {u = tt}).answer) in
    ap product (sym grid_is) ∙ sym (counted it.placed)

pub returns-clause-answer : goal.returns-clause-answer
returns-clause-answer g c =
    let P = c.taken_parts.result in
    let sizes = c.args.form.shape.now in
    let region = c.args.region.now in
    let form = c.taken_parts.ensures.form in
    let shard = stored_shard g.B.BytesToBytesCodecTraits.functions (plain_sharding c.args.codec.now) P.codecs.now P.index_codecs.now P.chunk_shape.now P.is_index_at_end sizes c.args.form.data_type.now c.args.form.fill_value.now c.args.span.now (g.H.BytesPartialDecoderTraits.state c.args.handle.now) c.taken_parts.ensures.parts c.requires.taken c.requires.stands in
    let taken = c.in_ok-taken.taken in
    let same = (c.in_ok-taken.ensures {u = tt}).form in
    let are = subst (AreRegionParts P.chunk_shape.now region) (sym c.as_slice-parts.ensures.value) (found_parts P.chunk_shape.now region c.in_ok-parts.parts.items ((c.in_ok-parts.ensures {u = tt}).answer.is)) in
    let it = parted_shard shard c.args.numbers.now region _ c.as_slice-parts.result.now c.requires.index (inner_sizes taken same) taken.positive form.divided form.small c.requires.inside c.requires.filled are in
    let grid_is : grid P.chunk_shape.now sizes ≡ c.in_ok-grid.grid = ok_is (grid P.chunk_shape.now sizes) c.in_ok-grid.grid (sym (grid_known shard) ∙ (c.in_ok-grid.ensures {u = tt}).answer.is) in
    let lengths_are : region.lengths ≡ c.in_ok-lengths.lengths = ok_is region.lengths c.in_ok-lengths.lengths ((c.in_ok-lengths.ensures {u = tt}).answer) in
    let state = seen_state c.args.span.now (g.H.BytesPartialDecoderTraits.state c.args.handle.now) in
    parts_answered it c.in_ok-grid.grid c.in_ok-lengths.lengths grid_is lengths_are c.read_parts.result
    (inner_parts taken same state c.args.numbers.now c.in_ok-grid.grid c.as_slice-parts.result.now c.in_ok-lengths.lengths c.read_parts.result c.read_parts.ensures.answer)

pub returns-clause-sure : goal.returns-clause-sure
returns-clause-sure g c =
    let P = c.taken_parts.result in
    let sizes = c.args.form.shape.now in
    let region = c.args.region.now in
    let form = c.taken_parts.ensures.form in
    let shard = stored_shard g.B.BytesToBytesCodecTraits.functions (plain_sharding c.args.codec.now) P.codecs.now P.index_codecs.now P.chunk_shape.now P.is_index_at_end sizes c.args.form.data_type.now c.args.form.fill_value.now c.args.span.now (g.H.BytesPartialDecoderTraits.state c.args.handle.now) c.taken_parts.ensures.parts c.requires.taken c.requires.stands in
    let taken = c.in_ok-taken.taken in
    let same = (c.in_ok-taken.ensures {u = tt}).form in
    let are = subst (AreRegionParts P.chunk_shape.now region) (sym c.as_slice-parts.ensures.value) (found_parts P.chunk_shape.now region c.in_ok-parts.parts.items ((c.in_ok-parts.ensures {u = tt}).answer.is)) in
    let it = parted_shard shard c.args.numbers.now region _ c.as_slice-parts.result.now c.requires.index (inner_sizes taken same) taken.positive form.divided form.small c.requires.inside c.requires.filled are in
    let grid_is : grid P.chunk_shape.now sizes ≡ c.in_ok-grid.grid = ok_is (grid P.chunk_shape.now sizes) c.in_ok-grid.grid (sym (grid_known shard) ∙ (c.in_ok-grid.ensures {u = tt}).answer.is) in
    let lengths_are : region.lengths ≡ c.in_ok-lengths.lengths = ok_is region.lengths c.in_ok-lengths.lengths ((c.in_ok-lengths.ensures {u = tt}).answer) in
    let state = seen_state c.args.span.now (g.H.BytesPartialDecoderTraits.state c.args.handle.now) in
    λ s. c.read_parts.ensures.sure (parts_rested taken same state c.args.numbers.now c.in_ok-grid.grid c.as_slice-parts.result.now (parts_sure it c.in_ok-grid.grid grid_is s))
