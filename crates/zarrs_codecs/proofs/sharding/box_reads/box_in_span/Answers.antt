use Rattle.std.proofs.Common.{◌≡◌, ◌<◌, true, ℕ, List, rules, sym, subst}
use Rattle.std.specs.Prelude.{IfSome}
use Rattle.std.proofs.lemmas.Result.{err_from_is_err_and}
use Rattle.zarrs_chain.specs.ChainView.{plain_sharding}
use Rattle.zarrs_array_regions.specs.WindowLaws.{region_places}
use Rattle.zarrs_chunk.specs.ChunkShape.{product}
use Rattle.zarrs_chunk.specs.Tuples.{is_box_inside}
use Rattle.zarrs_codecs.proofs.LoneBoxes.{box_some, lone_answered, lone_sure, placed_box, there}
use Rattle.zarrs_codecs.proofs.PlaceWrites.{memory_too}
use Rattle.zarrs_codecs.proofs.ShardParts.{inner_taken, stored_shard}
use Rattle.zarrs_codecs.proofs.TakenChains.{inner_sizes, inner_span, span_rested}
use Rattle.zarrs_codecs.specs.SpanReads.{ReadsSpan, SureSpan, seen_state}
use Rattle.zarrs_shard_runs.specs.InnerBox.{IsInnerBox}
use Rattle.zarrs_codecs.proofs.sharding.box_reads.box_in_span.Goals as goal

pub returns-in_err-taken-clause-answer : goal.returns-in_err-taken-clause-answer
returns-in_err-taken-clause-answer g c =
    let P = c.taken_parts.result in
    let sizes = c.args.form.shape.now in
    let region = c.args.region.now in
    let form = c.taken_parts.ensures.form in
    let shard = stored_shard g.B.BytesToBytesCodecTraits.functions (plain_sharding c.args.codec.now) P.codecs.now P.index_codecs.now P.chunk_shape.now P.is_index_at_end sizes c.args.form.data_type.now c.args.form.fill_value.now c.args.span.now (g.H.BytesPartialDecoderTraits.state c.args.handle.now) c.taken_parts.ensures.parts c.requires.taken c.requires.stands in
    let p = err_from_is_err_and c.from_residual-in_err-taken.result c.from_residual-in_err-taken.ensures.1 in
    rw (p.1, p.2) (λ unexcused. absurd (inner_taken shard c.in_err-taken.field-0.0 (c.in_err-taken.ensures.answer.is (memory_too c.in_err-taken.field-0.0 unexcused))))

pub place_of-place-requires : goal.place_of-place-requires
place_of-place-requires g c =
    let P = c.taken_parts.result in
    let sizes = c.args.form.shape.now in
    let region = c.args.region.now in
    let form = c.taken_parts.ensures.form in
    let shard = stored_shard g.B.BytesToBytesCodecTraits.functions (plain_sharding c.args.codec.now) P.codecs.now P.index_codecs.now P.chunk_shape.now P.is_index_at_end sizes c.args.form.data_type.now c.args.form.fill_value.now c.args.span.now (g.H.BytesPartialDecoderTraits.state c.args.handle.now) c.taken_parts.ensures.parts c.requires.taken c.requires.stands in
    let taken = c.in_ok-taken.taken in
    let same = (c.in_ok-taken.ensures {u = tt}).form in
    let placed = placed_box shard c.args.numbers.now region _ c.requires.index (inner_sizes taken same) taken.positive form.divided form.small c.requires.inside in
    let lone = subst (λ x. IfSome x (IsInnerBox P.chunk_shape.now sizes region)) c.in-Some.is c.in_ok-found.ensures.one in
    let some = box_some sizes region c.requires.inside c.requires.filled in
    record { there = there placed c.in-Some.found lone some c.requires.numbers }

pub read_inner_box-requires : goal.read_inner_box-requires
read_inner_box-requires g c =
    let P = c.taken_parts.result in
    let sizes = c.args.form.shape.now in
    let region = c.args.region.now in
    let taken = c.in_ok-taken.taken in
    let same = (c.in_ok-taken.ensures {u = tt}).form in
    let lone = subst (λ x. IfSome x (IsInnerBox P.chunk_shape.now sizes region)) c.in-Some.is c.in_ok-found.ensures.one in
    let inside = subst (λ sizes. is_box_inside sizes c.in-Some.found.region.starts c.in-Some.found.region.lengths ≡ true) (sym (inner_sizes taken same)) lone.inside in
    let filled = subst (λ lengths. 0 < product lengths) (sym lone.lengths) c.requires.filled in
    search (rules, inside, filled)

pub returns-clause-answer : goal.returns-clause-answer
returns-clause-answer g c =
    let P = c.taken_parts.result in
    let sizes = c.args.form.shape.now in
    let region = c.args.region.now in
    let form = c.taken_parts.ensures.form in
    let shard = stored_shard g.B.BytesToBytesCodecTraits.functions (plain_sharding c.args.codec.now) P.codecs.now P.index_codecs.now P.chunk_shape.now P.is_index_at_end sizes c.args.form.data_type.now c.args.form.fill_value.now c.args.span.now (g.H.BytesPartialDecoderTraits.state c.args.handle.now) c.taken_parts.ensures.parts c.requires.taken c.requires.stands in
    let taken = c.in_ok-taken.taken in
    let same = (c.in_ok-taken.ensures {u = tt}).form in
    let placed = placed_box shard c.args.numbers.now region _ c.requires.index (inner_sizes taken same) taken.positive form.divided form.small c.requires.inside in
    let lone = subst (λ x. IfSome x (IsInnerBox P.chunk_shape.now sizes region)) c.in-Some.is c.in_ok-found.ensures.one in
    let some = box_some sizes region c.requires.inside c.requires.filled in
    let state = seen_state c.args.span.now (g.H.BytesPartialDecoderTraits.state c.args.handle.now) in
    let place_is = c.place_of-place.ensures.value in
    let place = c.place_of-place.result in
    let answer = subst (λ (sizes : List ℕ). ReadsSpan taken state place (region_places sizes c.in-Some.found.region) c.read_inner_box.result) (inner_sizes taken same) c.read_inner_box.ensures.answer in
    lone_answered placed c.in-Some.found lone some c.requires.numbers c.read_inner_box.result (rw (sym place_is) (inner_span taken same state place (region_places P.chunk_shape.now c.in-Some.found.region) c.read_inner_box.result answer))

pub returns-clause-sure : goal.returns-clause-sure
returns-clause-sure g c =
    let P = c.taken_parts.result in
    let sizes = c.args.form.shape.now in
    let region = c.args.region.now in
    let form = c.taken_parts.ensures.form in
    let shard = stored_shard g.B.BytesToBytesCodecTraits.functions (plain_sharding c.args.codec.now) P.codecs.now P.index_codecs.now P.chunk_shape.now P.is_index_at_end sizes c.args.form.data_type.now c.args.form.fill_value.now c.args.span.now (g.H.BytesPartialDecoderTraits.state c.args.handle.now) c.taken_parts.ensures.parts c.requires.taken c.requires.stands in
    let taken = c.in_ok-taken.taken in
    let same = (c.in_ok-taken.ensures {u = tt}).form in
    let placed = placed_box shard c.args.numbers.now region _ c.requires.index (inner_sizes taken same) taken.positive form.divided form.small c.requires.inside in
    let lone = subst (λ x. IfSome x (IsInnerBox P.chunk_shape.now sizes region)) c.in-Some.is c.in_ok-found.ensures.one in
    let some = box_some sizes region c.requires.inside c.requires.filled in
    let state = seen_state c.args.span.now (g.H.BytesPartialDecoderTraits.state c.args.handle.now) in
    let place_is = c.place_of-place.ensures.value in
    let place = c.place_of-place.result in
    let sure = subst (λ (sizes : List ℕ). SureSpan taken state place (region_places sizes c.in-Some.found.region) c.read_inner_box.result) (inner_sizes taken same) c.read_inner_box.ensures.sure in
    λ s. sure (span_rested taken same state place (region_places P.chunk_shape.now c.in-Some.found.region) (rw place_is (lone_sure placed c.in-Some.found lone some c.requires.numbers s)))
