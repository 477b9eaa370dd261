use Rattle.std.proofs.Common.{rules, arith, ◌≡◌, ◌<◌, ℕ, Result, Ok, Err, List, [], true, false, map, length, ap, sym, subst, ◌∙◌}
use Rattle.std.proofs.lemmas.Result.{err_from_is_err_and}
use Rattle.zarrs_array_bytes.specs.Validity.{Holds}
use Rattle.zarrs_array_regions.specs.Windows.{TakesRegion, TakeType, decoded_of, window_of}
use Rattle.zarrs_array_to_array.specs.Mapping.{mapping_of}
use Rattle.zarrs_bytes.proofs.Coding.{ok}
use Rattle.zarrs_chain.specs.ChainView.{plain_chain, plain_codec, plain_sharding}
use Rattle.zarrs_chain_meaning.proofs.ArraySteps.{ok_is, ok_no_err}
use Rattle.zarrs_chunk.specs.Answer.{AnswersBy, memory, is_fault}
use Rattle.zarrs_chunk.specs.ChunkShape.{product}
use Rattle.zarrs_chunk.specs.Indexer.{selection_of}
use Rattle.zarrs_chunk.specs.Runs.{AreFilled, EndWithin, joined_runs}
use Rattle.zarrs_chunk.specs.declared.codec_error.CodecError.{CodecError}
use Rattle.zarrs_codecs.proofs.PlaceWrites.{memory_too}
use Rattle.zarrs_codecs.proofs.RegionReads.{runs_at}
use Rattle.zarrs_codecs.proofs.SpanChains.{held_sure, window_answered, window_refused, window_sure, window_valid, taken_stored, readable, places_gone, read_moved, sure_moved, read_alone, window_taken, window_type_taken}
use Rattle.zarrs_chain_meaning.specs.sharding.Sharding.{is_stored, spans_of}
use Rattle.std.specs.Prelude.{IsOkAnd, ◌^◌}
use Rattle.zarrs_chain_meaning.specs.CodecMeaning.{codec_representation}
use Rattle.zarrs_codecs.proofs.GroupWalks.{WalkedTo, walk_ends}
use Rattle.zarrs_codecs.specs.KeptIndex.{IsIndex}
use Rattle.zarrs_shard_runs.specs.GroupedRuns.{group, order_places}
use Rattle.zarrs_codecs.proofs.ShardParts.{grid_known, index_measured, inner_taken, stored_shard}
use Rattle.zarrs_codecs.proofs.ShardSpans.{index_known, inside_is, inside_sure, with_index_sure}
use Rattle.zarrs_codecs.proofs.IndexReads.{behind_sure}
use Rattle.zarrs_codecs.proofs.SpanSeen.{stands_value}
use Rattle.zarrs_codecs.proofs.StoredIndex.{two_each}
use Rattle.zarrs_chain_meaning.specs.sharding.InnerChunks.{inner_chunk_count}
use Rattle.zarrs_codecs.specs.ChunkRead.{AnswersRuns, are_given_sure}
use Rattle.zarrs_codecs.specs.SpanReads.{AreInnerRuns, StandsIn, chain_read, chain_rests, stored_groups_read, stored_groups_rest, seen_state}
use Rattle.zarrs_data_type.specs.Element.{Chunk}
use Rattle.std.proofs.lemmas.Bool.Decides.{nat_tests}
use Rattle.zarrs_codecs.proofs.TakenChains.{groups_rested, inner_depth, inner_groups, inner_sizes}
use Rattle.zarrs_codecs.specs.TakenChain.{inner_form}
use Rattle.zarrs_codecs.proofs.sharding.+read.Goals as goal
use Rattle.std.proofs.lemmas.List.{nil_from_length}
use Rattle.zarrs_codecs.proofs.BoxReads.{box_places_are}
use Rattle.zarrs_codecs.proofs.AloneGroup.{is_alone, alone_answered, alone_few, alone_sure}
use Rattle.zarrs_codecs.proofs.GroupedShards.{groups_answered, groups_error, groups_sure, inner_runs, grouped_shard}
use Rattle.zarrs_codecs.proofs.GroupSteps.{at_group, group_filled, group_inside, lent_few, group_refused, group_sure, so_far_valid, part_valid, count_fits, group_read, rest_sure}
use Rattle.zarrs_codecs.specs.CodecPart.{rests_where}

pub inner_reads::chain_in_span-returns-clause-answer : goal.inner_reads::chain_in_span-returns-clause-answer
inner_reads::chain_in_span-returns-clause-answer g t c =
    let form = inner_form c.args.taken.now in
    let it = taken_stored c.args.taken.now c.args.span.now (g.H.BytesPartialDecoderTraits.state c.args.handle.now) c.chain_is_sound.ensures.mappings.mappings c.requires.stands in
    let empty : length c.array_to_array_codecs.result.now ≡ 0 = grind (arith, nat_tests) in
    let none = nil_from_length c.array_to_array_codecs.result.now empty in
    let arrays : form.chain.array_to_array ≡ [] = sym c.array_to_array_codecs.ensures.value ∙ ap (λ codecs. map mapping_of codecs) none in
    subst (λ (x : Result Chunk CodecError). AnswersRuns form.type x c.moved_in_span.result) (sym (read_alone it arrays (joined_runs c.args.runs.now)))
    c.moved_in_span.ensures.answer

pub inner_reads::indexed_in_span-returns-in-Some-clause-reads : goal.inner_reads::indexed_in_span-returns-in-Some-clause-reads
inner_reads::indexed_in_span-returns-in-Some-clause-reads g t c places at =
    let form = inner_form c.args.taken.now in
    let f = g.B.BytesToBytesCodecTraits.functions in
    let chain = form.chain in
    let type = form.type in
    let fill = form.fill in
    let state = seen_state c.args.span.now (g.H.BytesPartialDecoderTraits.state c.args.handle.now) in
    let same = box_places_are _ form.sizes (selection_of c.args.indexer.now) c.in-Some.region.now places ((c.in-Some.ensures {u = tt}).region_kept) c.args.taken.now.counted at in (
      subst (λ (ps : List ℕ). AnswersRuns type (chain_read f chain form.sizes type fill state.value ps) c.region_in_span.result) same c.region_in_span.ensures.answer,
      subst (λ (ps : List ℕ). are_given_sure state.sure (chain_rests f chain form.sizes type fill state.value ps) ≡ true → is_fault c.region_in_span.result ≡ false) same c.region_in_span.ensures.sure,
    )

pub inner_reads::indexed_in_span-returns-in_err-runs-clause-reads : goal.inner_reads::indexed_in_span-returns-in_err-runs-clause-reads
inner_reads::indexed_in_span-returns-in_err-runs-clause-reads g t c places at =
    let it = taken_stored c.args.taken.now c.args.span.now (g.H.BytesPartialDecoderTraits.state c.args.handle.now) c.chain_is_sound.ensures.mappings.mappings c.requires.stands in
    let p = err_from_is_err_and c.from_residual.result c.from_residual.ensures.1 in
    rw (p.1, p.2) (
      (λ unexcused. absurd (ok_no_err _ c.in_err-runs.field-0.0 (places_gone it (map mapping_of c.array_to_array_codecs-codecs.result.now) (selection_of c.args.indexer.now) places (Err c.in_err-runs.field-0.0) c.array_to_array_codecs-codecs.ensures.value at c.in_err-runs.ensures.answer.is (memory_too c.in_err-runs.field-0.0 unexcused)))),
      λ s. c.in_err-runs.ensures.answer.no_fault,
    )

pub inner_reads::indexed_in_span-returns-clause-reads : goal.inner_reads::indexed_in_span-returns-clause-reads
inner_reads::indexed_in_span-returns-clause-reads g t c places at =
    let form = inner_form c.args.taken.now in
    let it = taken_stored c.args.taken.now c.args.span.now (g.H.BytesPartialDecoderTraits.state c.args.handle.now) c.chain_is_sound.ensures.mappings.mappings c.requires.stands in
    let moved : map (readable it).map_is.to places ≡ joined_runs c.deref.result.now =
    ok_is _ _ (places_gone it (map mapping_of c.array_to_array_codecs-codecs.result.now) (selection_of c.args.indexer.now) places (Ok c.in_ok-runs.runs) c.array_to_array_codecs-codecs.ensures.value at c.in_ok-runs.ensures.answer.is) ∙ ap joined_runs (sym c.deref.ensures.value) in (
      subst (λ (x : Result Chunk CodecError). AnswersRuns form.type x c.moved_in_span.result) (sym (read_moved it places (joined_runs c.deref.result.now) moved)) c.moved_in_span.ensures.answer,
      λ s. c.moved_in_span.ensures.sure (sure_moved it places (joined_runs c.deref.result.now) moved s),
    )

pub inner_reads::region_in_span-region_runs-requires : goal.inner_reads::region_in_span-region_runs-requires
inner_reads::region_in_span-region_runs-requires g t c =
    let form = inner_form c.args.taken.now in
    let it = taken_stored c.args.taken.now c.args.span.now (g.H.BytesPartialDecoderTraits.state c.args.handle.now) c.chain_is_sound.ensures.mappings.mappings c.requires.stands in
    record { region = subst (λ cs. TakesRegion cs form.sizes c.args.region.now) (sym c.array_to_array_codecs-codecs.ensures.value) (window_taken it c.args.region.now c.requires.inside c.requires.region_kept) }

pub inner_reads::region_in_span-returns-in_err-held-clause-answer : goal.inner_reads::region_in_span-returns-in_err-held-clause-answer
inner_reads::region_in_span-returns-in_err-held-clause-answer g t c =
    let form = inner_form c.args.taken.now in
    let it = taken_stored c.args.taken.now c.args.span.now (g.H.BytesPartialDecoderTraits.state c.args.handle.now) c.chain_is_sound.ensures.mappings.mappings c.requires.stands in
    let at = runs_at form.chain.array_to_array (map mapping_of c.array_to_array_codecs-codecs.result.now) (window_of form.sizes c.args.region.now) c.in_ok-runs.runs.items c.deref.result.now c.array_to_array_codecs-codecs.ensures.value ((c.in_ok-runs.ensures {u = tt}).places.is) c.deref.ensures.value in
    let p = err_from_is_err_and c.from_residual-in_err-held.result c.from_residual-in_err-held.ensures.1 in
    rw (p.1, p.2) (window_refused it c.args.region.now c.requires.inside c.requires.region_kept (joined_runs c.deref.result.now) c.in_err-held.field-0.0 at c.in_err-held.ensures.answer)

pub inner_reads::region_in_span-returns-in_err-held-clause-sure : goal.inner_reads::region_in_span-returns-in_err-held-clause-sure
inner_reads::region_in_span-returns-in_err-held-clause-sure g t c =
    let form = inner_form c.args.taken.now in
    let it = taken_stored c.args.taken.now c.args.span.now (g.H.BytesPartialDecoderTraits.state c.args.handle.now) c.chain_is_sound.ensures.mappings.mappings c.requires.stands in
    let at = runs_at form.chain.array_to_array (map mapping_of c.array_to_array_codecs-codecs.result.now) (window_of form.sizes c.args.region.now) c.in_ok-runs.runs.items c.deref.result.now c.array_to_array_codecs-codecs.ensures.value ((c.in_ok-runs.ensures {u = tt}).places.is) c.deref.ensures.value in
    let p = err_from_is_err_and c.from_residual-in_err-held.result c.from_residual-in_err-held.ensures.1 in
    λ s. rw (p.1, p.2) (c.in_err-held.ensures.sure (window_sure it c.args.region.now c.requires.inside c.requires.region_kept (joined_runs c.deref.result.now) at s))

pub inner_reads::region_in_span-decoded_window-requires-clause-region : goal.inner_reads::region_in_span-decoded_window-requires-clause-region
inner_reads::region_in_span-decoded_window-requires-clause-region g t c =
    let form = inner_form c.args.taken.now in
    let it = taken_stored c.args.taken.now c.args.span.now (g.H.BytesPartialDecoderTraits.state c.args.handle.now) c.chain_is_sound.ensures.mappings.mappings c.requires.stands in
    subst (λ cs. TakesRegion cs form.sizes c.args.region.now) (sym c.array_to_array_codecs-codecs.ensures.value) (window_taken it c.args.region.now c.requires.inside c.requires.region_kept)

pub inner_reads::region_in_span-decoded_window-requires-clause-takes : goal.inner_reads::region_in_span-decoded_window-requires-clause-takes
inner_reads::region_in_span-decoded_window-requires-clause-takes g t c =
    let form = inner_form c.args.taken.now in
    let it = taken_stored c.args.taken.now c.args.span.now (g.H.BytesPartialDecoderTraits.state c.args.handle.now) c.chain_is_sound.ensures.mappings.mappings c.requires.stands in
    subst (λ cs. TakeType cs form.type) (sym c.array_to_array_codecs-codecs.ensures.value) (window_type_taken it c.args.region.now c.requires.inside c.requires.region_kept)

pub inner_reads::region_in_span-decoded_window-requires-clause-valid : goal.inner_reads::region_in_span-decoded_window-requires-clause-valid
inner_reads::region_in_span-decoded_window-requires-clause-valid g t c =
    let form = inner_form c.args.taken.now in
    let it = taken_stored c.args.taken.now c.args.span.now (g.H.BytesPartialDecoderTraits.state c.args.handle.now) c.chain_is_sound.ensures.mappings.mappings c.requires.stands in
    let at = runs_at form.chain.array_to_array (map mapping_of c.array_to_array_codecs-codecs.result.now) (window_of form.sizes c.args.region.now) c.in_ok-runs.runs.items c.deref.result.now c.array_to_array_codecs-codecs.ensures.value ((c.in_ok-runs.ensures {u = tt}).places.is) c.deref.ensures.value in
    window_valid it c.args.region.now c.requires.inside c.requires.region_kept (joined_runs c.deref.result.now) c.in_ok-held.held at ((c.in_ok-held.ensures {u = tt}).answer)

pub inner_reads::region_in_span-returns-clause-answer : goal.inner_reads::region_in_span-returns-clause-answer
inner_reads::region_in_span-returns-clause-answer g t c =
    let form = inner_form c.args.taken.now in
    let it = taken_stored c.args.taken.now c.args.span.now (g.H.BytesPartialDecoderTraits.state c.args.handle.now) c.chain_is_sound.ensures.mappings.mappings c.requires.stands in
    let at = runs_at form.chain.array_to_array (map mapping_of c.array_to_array_codecs-codecs.result.now) (window_of form.sizes c.args.region.now) c.in_ok-runs.runs.items c.deref.result.now c.array_to_array_codecs-codecs.ensures.value ((c.in_ok-runs.ensures {u = tt}).places.is) c.deref.ensures.value in
    window_answered it c.args.region.now c.requires.inside c.requires.region_kept (joined_runs c.deref.result.now) c.in_ok-held.held c.decoded_window.result at ((c.in_ok-held.ensures {u = tt}).answer)
    (subst (λ cs. AnswersBy memory (Holds form.type) c.decoded_window.result (ok (decoded_of cs form.type (window_of form.sizes c.args.region.now) c.in_ok-held.held))) c.array_to_array_codecs-codecs.ensures.value c.decoded_window.ensures.decoded.is)

pub shard_runs::read_group-returns-clause-answer : goal.shard_runs::read_group-returns-clause-answer
shard_runs::read_group-returns-clause-answer g t c =
    let form = inner_form c.args.taken.now in
    let f = g.B.BytesToBytesCodecTraits.functions in
    let e : is_stored c.args.place ≡ true = search rules in
    subst (λ (x : Result Chunk CodecError). AnswersRuns form.type x c.chain_in_span.result) (inside_is f form.chain form.sizes form.type form.fill c.args.span.now (g.H.BytesPartialDecoderTraits.state c.args.handle.now) c.requires.stands c.args.place (joined_runs c.args.runs.now) c.in_ok-inside.inside e c.in_ok-inside.ensures.answer) c.chain_in_span.ensures.answer

pub shard_runs::read_group-returns-clause-sure : goal.shard_runs::read_group-returns-clause-sure
shard_runs::read_group-returns-clause-sure g t c =
    let form = inner_form c.args.taken.now in
    let f = g.B.BytesToBytesCodecTraits.functions in
    let e : is_stored c.args.place ≡ true = search rules in
    λ s. c.chain_in_span.ensures.sure (inside_sure f form.chain form.sizes form.type form.fill c.args.span.now (g.H.BytesPartialDecoderTraits.state c.args.handle.now) c.requires.stands c.args.place (joined_runs c.args.runs.now) c.in_ok-inside.inside e c.in_ok-inside.ensures.answer s)

pub shard_runs::shard_in_span-index_numbers-requires-clause-grid : goal.shard_runs::shard_in_span-index_numbers-requires-clause-grid
shard_runs::shard_in_span-index_numbers-requires-clause-grid g t c =
    let P = c.taken_parts-at_end.result in
    let shard = stored_shard g.B.BytesToBytesCodecTraits.functions (plain_sharding c.args.codec.now) P.codecs.now P.index_codecs.now P.chunk_shape.now P.is_index_at_end c.args.form.shape.now c.args.form.data_type.now c.args.form.fill_value.now c.args.span.now (g.H.BytesPartialDecoderTraits.state c.args.handle.now) c.taken_parts-at_end.ensures.parts c.requires.taken c.requires.stands in
    grid_known shard

pub shard_runs::shard_in_span-index_numbers-requires-clause-measured : goal.shard_runs::shard_in_span-index_numbers-requires-clause-measured
shard_runs::shard_in_span-index_numbers-requires-clause-measured g t c =
    let P = c.taken_parts-at_end.result in
    let shard = stored_shard g.B.BytesToBytesCodecTraits.functions (plain_sharding c.args.codec.now) P.codecs.now P.index_codecs.now P.chunk_shape.now P.is_index_at_end c.args.form.shape.now c.args.form.data_type.now c.args.form.fill_value.now c.args.span.now (g.H.BytesPartialDecoderTraits.state c.args.handle.now) c.taken_parts-at_end.ensures.parts c.requires.taken c.requires.stands in
    index_measured shard

pub shard_runs::shard_in_span-shard_by_index-requires : goal.shard_runs::shard_in_span-shard_by_index-requires
shard_runs::shard_in_span-shard_by_index-requires g t c κs within =
    let P = c.taken_parts-at_end.result in
    let shard = stored_shard g.B.BytesToBytesCodecTraits.functions (plain_sharding c.args.codec.now) P.codecs.now P.index_codecs.now P.chunk_shape.now P.is_index_at_end c.args.form.shape.now c.args.form.data_type.now c.args.form.fill_value.now c.args.span.now (g.H.BytesPartialDecoderTraits.state c.args.handle.now) c.taken_parts-at_end.ensures.parts c.requires.taken c.requires.stands in
    let at = (c.in_ok-found.ensures {u = tt}).answer ∙ ap (λ (ns : List ℕ). ok (spans_of ns)) (sym c.as_slice-numbers.ensures.value) in
    let same = sym ((c.in_ok-found.ensures {u = tt}).left) in
    let known = subst (λ s. IsIndex g.B.BytesToBytesCodecTraits.functions (plain_sharding c.args.codec.now) c.args.form.shape.now (seen_state c.args.span.now s).value c.as_slice-numbers.result.now) same
    (index_known g.B.BytesToBytesCodecTraits.functions (plain_sharding c.args.codec.now) (plain_chain P.codecs.now) (plain_chain P.index_codecs.now) P.chunk_shape.now P.is_index_at_end c.args.form.shape.now (seen_state c.args.span.now (g.H.BytesPartialDecoderTraits.state c.args.handle.now)).value shard.value c.as_slice-numbers.result.now shard.is shard.value_is at) in
    let stands = subst (λ s. StandsIn c.args.span.now s) same c.requires.stands in
    let long = two_each (inner_chunk_count P.chunk_shape.now c.args.form.shape.now) c.as_slice-numbers.result.now (ap length c.as_slice-numbers.ensures.value ∙ (c.in_ok-found.ensures {u = tt}).len) in
    search (rules, known, stands, long)

pub shard_runs::shard_in_span-returns-clause-sure : goal.shard_runs::shard_in_span-returns-clause-sure
shard_runs::shard_in_span-returns-clause-sure g t c =
    let f = g.B.BytesToBytesCodecTraits.functions in
    let codec = plain_sharding c.args.codec.now in
    let handle = g.H.BytesPartialDecoderTraits.state c.args.handle.now in
    let state = seen_state c.args.span.now handle in
    let places = joined_runs c.args.runs.now in
    let behind : are_given_sure state.sure (rests_where true f codec c.args.form.shape.now c.args.form.data_type.now c.args.form.fill_value.now state.value places) ≡ true → is_fault c.shard_by_index.result ≡ false =
    subst (λ s. are_given_sure (seen_state c.args.span.now s).sure (rests_where true f codec c.args.form.shape.now c.args.form.data_type.now c.args.form.fill_value.now (seen_state c.args.span.now s).value places) ≡ true → is_fault c.shard_by_index.result ≡ false) ((c.in_ok-found.ensures {u = tt}).left) c.shard_by_index.ensures.sure in
    λ s. behind (behind_sure f codec c.args.form.shape.now c.args.form.data_type.now c.args.form.fill_value.now state.value places state.sure s)

pub shard_runs::shard_in_span-returns-in_err-found-clause-sure : goal.shard_runs::shard_in_span-returns-in_err-found-clause-sure
shard_runs::shard_in_span-returns-in_err-found-clause-sure g t c =
    let P = c.taken_parts-at_end.result in
    let shard = stored_shard g.B.BytesToBytesCodecTraits.functions (plain_sharding c.args.codec.now) P.codecs.now P.index_codecs.now P.chunk_shape.now P.is_index_at_end c.args.form.shape.now c.args.form.data_type.now c.args.form.fill_value.now c.args.span.now (g.H.BytesPartialDecoderTraits.state c.args.handle.now) c.taken_parts-at_end.ensures.parts c.requires.taken c.requires.stands in
    let p = err_from_is_err_and c.from_residual.result c.from_residual.ensures.1 in
    λ s. rw (p.1, p.2) (with_index_sure shard (joined_runs c.args.runs.now) s (is_fault {T = Unit {0}} (Err c.in_err-found.field-0.0) ≡ false) c.in_err-found.ensures.sure)

pub shard_runs::shard_by_index-returns-in_err-taken-clause-answer : goal.shard_runs::shard_by_index-returns-in_err-taken-clause-answer
shard_runs::shard_by_index-returns-in_err-taken-clause-answer g t c =
    let P = c.taken_parts.result in
    let shard = stored_shard g.B.BytesToBytesCodecTraits.functions (plain_sharding c.args.codec.now) P.codecs.now P.index_codecs.now P.chunk_shape.now P.is_index_at_end c.args.form.shape.now c.args.form.data_type.now c.args.form.fill_value.now c.args.span.now (g.H.BytesPartialDecoderTraits.state c.args.handle.now) c.taken_parts.ensures.parts c.requires.taken c.requires.stands in
    let p = err_from_is_err_and c.from_residual.result c.from_residual.ensures.1 in
    rw (p.1, p.2) (λ unexcused. absurd (inner_taken shard c.in_err-taken.field-0.0 (c.in_err-taken.ensures.answer.is (memory_too c.in_err-taken.field-0.0 unexcused))))

pub inner_reads::indexed_in_span-moved_in_span-requires : goal.inner_reads::indexed_in_span-moved_in_span-requires
inner_reads::indexed_in_span-moved_in_span-requires g t c κs within =
    let form = inner_form c.args.taken.now in
    let it = taken_stored c.args.taken.now c.args.span.now (g.H.BytesPartialDecoderTraits.state c.args.handle.now) c.chain_is_sound.ensures.mappings.mappings c.requires.stands in
    let filled = subst AreFilled (sym c.deref.ensures.value) ((c.in_ok-runs.ensures {u = tt}).filled) in
    let inside = subst (λ n. EndWithin n c.deref.result.now) (sym (readable it).count) (subst (EndWithin (product form.sizes)) (sym c.deref.ensures.value) ((c.in_ok-runs.ensures {u = tt}).below)) in
    let few = subst (λ rs. length (joined_runs rs) < 2 ^ 64) (sym c.deref.ensures.value) ((c.in_ok-runs.ensures {u = tt}).count) in
    search (rules, filled, inside, few)

pub inner_reads::region_in_span-moved_in_span-requires : goal.inner_reads::region_in_span-moved_in_span-requires
inner_reads::region_in_span-moved_in_span-requires g t c κs within =
    let form = inner_form c.args.taken.now in
    let it = taken_stored c.args.taken.now c.args.span.now (g.H.BytesPartialDecoderTraits.state c.args.handle.now) c.chain_is_sound.ensures.mappings.mappings c.requires.stands in
    let filled = subst AreFilled (sym c.deref.ensures.value) ((c.in_ok-runs.ensures {u = tt}).filled) in
    let inside = subst (λ n. EndWithin n c.deref.result.now) (sym (readable it).count) (subst (EndWithin (product form.sizes)) (sym c.deref.ensures.value) ((c.in_ok-runs.ensures {u = tt}).below)) in
    let few = subst (λ rs. length (joined_runs rs) < 2 ^ 64) (sym c.deref.ensures.value) ((c.in_ok-runs.ensures {u = tt}).count) in
    search (rules, filled, inside, few)

pub inner_reads::moved_in_span-returns-clause-sure : goal.inner_reads::moved_in_span-returns-clause-sure
inner_reads::moved_in_span-returns-clause-sure g t c =
    let taken = c.args.taken.now in
    let f = g.B.BytesToBytesCodecTraits.functions in
    let moved = c.moved_form-form.result in
    let codec = plain_codec c.array_to_bytes_codec-codec.result.now in
    let measured : codec_representation f codec moved.shape.now moved.data_type.now moved.fill_value.now ≡ Ok taken.measured =
    rw (c.array_to_bytes_codec-codec.ensures.value, c.moved_form-form.ensures.shape, c.moved_form-form.ensures.data_type, c.moved_form-form.ensures.fill_value) taken.codec_takes in
    λ s. c.codec_in_span-2.ensures.sure (held_sure f codec c.of_bytes-inside.result c.as_slice.result.now (g.H.BytesPartialDecoderTraits.state c.span_bytes.new.handle) moved.shape.now moved.data_type.now moved.fill_value.now taken.measured (joined_runs c.args.runs.now) c.of_bytes-inside.ensures.parts measured)

pub shard_runs::read_alone-read_group-requires : goal.shard_runs::read_alone-read_group-requires
shard_runs::read_alone-read_group-requires g t c κs within =
    let form = inner_form c.args.taken.now in
    let it = is_alone form.sizes c.args.numbers.now c.args.groups.now c.index-groups-0.result c.requires.one c.index-groups-0.is c.requires.groups c.requires.numbers in
    let filled = subst AreFilled (sym c.as_slice.ensures.value) it.filled in
    let below = subst (EndWithin (product form.sizes)) (sym c.as_slice.ensures.value) it.inside in
    let few = alone_few it c.as_slice.result.now c.as_slice.ensures.value in
    search (rules, filled, below, few)

pub shard_runs::read_alone-returns-clause-answer : goal.shard_runs::read_alone-returns-clause-answer
shard_runs::read_alone-returns-clause-answer g t c =
    let form = inner_form c.args.taken.now in
    let it = is_alone form.sizes c.args.numbers.now c.args.groups.now c.index-groups-0.result c.requires.one c.index-groups-0.is c.requires.groups c.requires.numbers in
    alone_answered it c.as_slice.result.now c.as_slice.ensures.value (chain_read g.B.BytesToBytesCodecTraits.functions form.chain) form.type form.fill
    (seen_state c.args.span.now (g.H.BytesPartialDecoderTraits.state c.args.handle.now)).value c.read_group.result c.read_group.ensures.answer

pub shard_runs::read_alone-returns-clause-sure : goal.shard_runs::read_alone-returns-clause-sure
shard_runs::read_alone-returns-clause-sure g t c =
    let form = inner_form c.args.taken.now in
    let it = is_alone form.sizes c.args.numbers.now c.args.groups.now c.index-groups-0.result c.requires.one c.index-groups-0.is c.requires.groups c.requires.numbers in
    let state = seen_state c.args.span.now (g.H.BytesPartialDecoderTraits.state c.args.handle.now) in
    λ s. c.read_group.ensures.sure (alone_sure it c.as_slice.result.now c.as_slice.ensures.value (chain_rests g.B.BytesToBytesCodecTraits.functions form.chain) form.type form.fill state.value state.sure s)

pub shard_runs::read_groups-read_group-requires : goal.shard_runs::read_groups-read_group-requires
shard_runs::read_groups-read_group-requires g t c κs within =
    let form = inner_form c.args.taken.now in
    let D = g.H.BytesPartialDecoderTraits in
    let inv = c.loop-group.invariant in
    let under : c.loop-group.group-index < length c.args.groups.now = grind (arith, nat_tests) in
    let step = at_group c.args.taken.now c.args.numbers.now c.args.groups.now c.loop-group.group-index c.loop-group.joined c.loop-group.count c.group-item.result c.args.span.now (D.state c.args.handle.now) (D.state c.loop-group.handle) c.requires.stands inv.state inv.walk under c.group-item.is c.requires.groups c.requires.numbers in
    let stands = subst (λ s. StandsIn c.args.span.now s) (sym inv.state) c.requires.stands in
    let filled = subst AreFilled (sym c.as_slice-runs.ensures.value) (group_filled step) in
    let below = subst (EndWithin (product form.sizes)) (sym c.as_slice-runs.ensures.value) (group_inside step) in
    let few = lent_few step c.as_slice-runs.result.now c.as_slice-runs.ensures.value in
    search (rules, stands, filled, below, few)

pub shard_runs::read_groups-returns-in_err-part-clause-answer : goal.shard_runs::read_groups-returns-in_err-part-clause-answer
shard_runs::read_groups-returns-in_err-part-clause-answer g t c =
    let D = g.H.BytesPartialDecoderTraits in
    let inv = c.loop-group.invariant in
    let under : c.loop-group.group-index < length c.args.groups.now = grind (arith, nat_tests) in
    let step = at_group c.args.taken.now c.args.numbers.now c.args.groups.now c.loop-group.group-index c.loop-group.joined c.loop-group.count c.group-item.result c.args.span.now (D.state c.args.handle.now) (D.state c.loop-group.handle) c.requires.stands inv.state inv.walk under c.group-item.is c.requires.groups c.requires.numbers in
    let p = err_from_is_err_and c.from_residual-in_err-part.result c.from_residual-in_err-part.ensures.1 in
    rw (p.1, p.2) (group_refused step c.as_slice-runs.result.now c.as_slice-runs.ensures.value c.in_err-part.field-0.0 c.in_err-part.ensures.answer)

pub shard_runs::read_groups-returns-in_err-part-clause-sure : goal.shard_runs::read_groups-returns-in_err-part-clause-sure
shard_runs::read_groups-returns-in_err-part-clause-sure g t c =
    let form = inner_form c.args.taken.now in
    let D = g.H.BytesPartialDecoderTraits in
    let inv = c.loop-group.invariant in
    let under : c.loop-group.group-index < length c.args.groups.now = grind (arith, nat_tests) in
    let step = at_group c.args.taken.now c.args.numbers.now c.args.groups.now c.loop-group.group-index c.loop-group.joined c.loop-group.count c.group-item.result c.args.span.now (D.state c.args.handle.now) (D.state c.loop-group.handle) c.requires.stands inv.state inv.walk under c.group-item.is c.requires.groups c.requires.numbers in
    let p = err_from_is_err_and c.from_residual-in_err-part.result c.from_residual-in_err-part.ensures.1 in
    let sure = (seen_state c.args.span.now (D.state c.args.handle.now)).sure in
    λ s. rw (p.1, p.2) (c.in_err-part.ensures.sure (group_sure step c.as_slice-runs.result.now c.as_slice-runs.ensures.value
    (inv.sure step.value step.value_is (sym (ap (λ v. are_given_sure sure (stored_groups_rest (chain_rests g.B.BytesToBytesCodecTraits.functions form.chain) form.sizes form.type form.fill v (spans_of c.args.numbers.now) (map group c.args.groups.now))) step.value_is) ∙ s))))

pub shard_runs::read_groups-append_elements-requires-clause-valid : goal.shard_runs::read_groups-append_elements-requires-clause-valid
shard_runs::read_groups-append_elements-requires-clause-valid g t c =
    let D = g.H.BytesPartialDecoderTraits in
    let inv = c.loop-group.invariant in
    let under : c.loop-group.group-index < length c.args.groups.now = grind (arith, nat_tests) in
    let step = at_group c.args.taken.now c.args.numbers.now c.args.groups.now c.loop-group.group-index c.loop-group.joined c.loop-group.count c.group-item.result c.args.span.now (D.state c.args.handle.now) (D.state c.loop-group.handle) c.requires.stands inv.state inv.walk under c.group-item.is c.requires.groups c.requires.numbers in
    so_far_valid step

pub shard_runs::read_groups-append_elements-requires-clause-more_valid : goal.shard_runs::read_groups-append_elements-requires-clause-more_valid
shard_runs::read_groups-append_elements-requires-clause-more_valid g t c =
    let D = g.H.BytesPartialDecoderTraits in
    let inv = c.loop-group.invariant in
    let under : c.loop-group.group-index < length c.args.groups.now = grind (arith, nat_tests) in
    let step = at_group c.args.taken.now c.args.numbers.now c.args.groups.now c.loop-group.group-index c.loop-group.joined c.loop-group.count c.group-item.result c.args.span.now (D.state c.args.handle.now) (D.state c.loop-group.handle) c.requires.stands inv.state inv.walk under c.group-item.is c.requires.groups c.requires.numbers in
    part_valid step c.as_slice-runs.result.now c.as_slice-runs.ensures.value c.count_places-more.result c.count_places-more.ensures.count c.as_slice-runs.result.now c.as_slice-runs.ensures.value c.in_ok-part.part ((c.in_ok-part.ensures {u = tt}).answer)

pub shard_runs::read_groups-overflow_add-count : goal.shard_runs::read_groups-overflow_add-count
shard_runs::read_groups-overflow_add-count g t c =
    let D = g.H.BytesPartialDecoderTraits in
    let inv = c.loop-group.invariant in
    let under : c.loop-group.group-index < length c.args.groups.now = grind (arith, nat_tests) in
    let step = at_group c.args.taken.now c.args.numbers.now c.args.groups.now c.loop-group.group-index c.loop-group.joined c.loop-group.count c.group-item.result c.args.span.now (D.state c.args.handle.now) (D.state c.loop-group.handle) c.requires.stands inv.state inv.walk under c.group-item.is c.requires.groups c.requires.numbers in
    let fits = count_fits step c.as_slice-runs.result.now c.as_slice-runs.ensures.value c.count_places-more.result c.count_places-more.ensures.count in
    omega (arith, fits)

pub shard_runs::read_groups-loop-group-preserved : goal.shard_runs::read_groups-loop-group-preserved
shard_runs::read_groups-loop-group-preserved g t c =
    let D = g.H.BytesPartialDecoderTraits in
    let inv = c.loop-group.invariant in
    let under : c.loop-group.group-index < length c.args.groups.now = grind (arith, nat_tests) in
    let step = at_group c.args.taken.now c.args.numbers.now c.args.groups.now c.loop-group.group-index c.loop-group.joined c.loop-group.count c.group-item.result c.args.span.now (D.state c.args.handle.now) (D.state c.loop-group.handle) c.requires.stands inv.state inv.walk under c.group-item.is c.requires.groups c.requires.numbers in
    let same = c.in_ok-part.ensures {u = tt} in
    record {
      walk = group_read step c.as_slice-runs.result.now c.as_slice-runs.ensures.value c.count_places-more.result c.count_places-more.ensures.count c.as_slice-runs.result.now c.as_slice-runs.ensures.value c.in_ok-part.part same.answer c.in_ok-joined-2.joined ((c.in_ok-joined-2.ensures {u = tt}).answer.is);
      sure = λ value e s. rest_sure step value (inv.sure value e s);
      tight = (c.in_ok-joined-2.ensures {u = tt}).tight inv.tight (same.tight.blank);
      state = same.left.left ∙ inv.state;
      lent = same.left.same_reference ∙ inv.lent;
    }

pub shard_runs::read_groups-returns-clause-answer : goal.shard_runs::read_groups-returns-clause-answer
shard_runs::read_groups-returns-clause-answer g t c =
    let form = inner_form c.args.taken.now in
    let f = g.B.BytesToBytesCodecTraits.functions in
    let D = g.H.BytesPartialDecoderTraits in
    let chain = form.chain in
    let groups = c.args.groups.now in
    let spans = spans_of c.args.numbers.now in
    let read = chain_read f chain in
    let there = stands_value c.args.span.now (D.state c.args.handle.now) c.requires.stands in
    let inv = c.loop-group.invariant in
    let end : c.loop-group.group-index ≡ length groups = grind (arith, nat_tests) in
    let walk = subst (λ k. WalkedTo read form.sizes form.type form.fill there.value spans groups k c.loop-group.joined c.loop-group.count) end (inv.walk there.value there.is) in
    subst (λ v. IsOkAnd (stored_groups_read read form.sizes form.type form.fill v spans (map group groups)) (Holds form.type c.loop-group.joined)) (sym there.is)
    (walk_ends read form.sizes form.type form.fill there.value spans groups c.loop-group.joined c.loop-group.count walk)

pub shard_runs::shard_by_index-read_groups-requires : goal.shard_runs::shard_by_index-read_groups-requires
shard_runs::shard_by_index-read_groups-requires g t c κs within =
    let P = c.taken_parts.result in
    let shard = stored_shard g.B.BytesToBytesCodecTraits.functions (plain_sharding c.args.codec.now) P.codecs.now P.index_codecs.now P.chunk_shape.now P.is_index_at_end c.args.form.shape.now c.args.form.data_type.now c.args.form.fill_value.now c.args.span.now (g.H.BytesPartialDecoderTraits.state c.args.handle.now) c.taken_parts.ensures.parts c.requires.taken c.requires.stands in
    let taken = c.in_ok-taken.taken in
    let same = (c.in_ok-taken.ensures {u = tt}).form in
    let it = grouped_shard shard c.args.numbers.now c.args.runs.now _ _ _ c.requires.index (inner_sizes taken same) taken.positive c.taken_parts.ensures.form.divided c.requires.below c.as_slice-groups.ensures.value ((c.in_ok-grouped.ensures {u = tt}).groups) in
    let runs = subst (λ sizes. AreInnerRuns sizes (length (spans_of c.args.numbers.now)) c.as_slice-groups.result.now) (sym (inner_sizes taken same)) (inner_runs it c.requires.count) in
    let deep = inner_depth taken same in
    search (rules, runs, deep)

pub shard_runs::shard_by_index-returns-in_err-joined-clause-answer : goal.shard_runs::shard_by_index-returns-in_err-joined-clause-answer
shard_runs::shard_by_index-returns-in_err-joined-clause-answer g t c =
    let P = c.taken_parts.result in
    let shard = stored_shard g.B.BytesToBytesCodecTraits.functions (plain_sharding c.args.codec.now) P.codecs.now P.index_codecs.now P.chunk_shape.now P.is_index_at_end c.args.form.shape.now c.args.form.data_type.now c.args.form.fill_value.now c.args.span.now (g.H.BytesPartialDecoderTraits.state c.args.handle.now) c.taken_parts.ensures.parts c.requires.taken c.requires.stands in
    let taken = c.in_ok-taken.taken in
    let same = (c.in_ok-taken.ensures {u = tt}).form in
    let it = grouped_shard shard c.args.numbers.now c.args.runs.now _ _ _ c.requires.index (inner_sizes taken same) taken.positive c.taken_parts.ensures.form.divided c.requires.below c.as_slice-groups.ensures.value ((c.in_ok-grouped.ensures {u = tt}).groups) in
    let p = err_from_is_err_and c.from_residual-in_err-joined.result c.from_residual-in_err-joined.ensures.1 in
    let state = seen_state c.args.span.now (g.H.BytesPartialDecoderTraits.state c.args.handle.now) in
    let answer = inner_groups taken same state c.args.numbers.now c.as_slice-groups.result.now (Err c.in_err-joined.field-0.0) c.in_err-joined.ensures.answer in
    rw (p.1, p.2) (λ unexcused. groups_error it (order_places (length (joined_runs c.args.runs.now)) c.in_ok-grouped.grouped.order) ((c.in_ok-grouped.ensures {u = tt}).order) c.in_err-joined.field-0.0 (answer unexcused))

pub shard_runs::shard_by_index-returns-in_err-joined-clause-sure : goal.shard_runs::shard_by_index-returns-in_err-joined-clause-sure
shard_runs::shard_by_index-returns-in_err-joined-clause-sure g t c =
    let P = c.taken_parts.result in
    let shard = stored_shard g.B.BytesToBytesCodecTraits.functions (plain_sharding c.args.codec.now) P.codecs.now P.index_codecs.now P.chunk_shape.now P.is_index_at_end c.args.form.shape.now c.args.form.data_type.now c.args.form.fill_value.now c.args.span.now (g.H.BytesPartialDecoderTraits.state c.args.handle.now) c.taken_parts.ensures.parts c.requires.taken c.requires.stands in
    let taken = c.in_ok-taken.taken in
    let same = (c.in_ok-taken.ensures {u = tt}).form in
    let it = grouped_shard shard c.args.numbers.now c.args.runs.now _ _ _ c.requires.index (inner_sizes taken same) taken.positive c.taken_parts.ensures.form.divided c.requires.below c.as_slice-groups.ensures.value ((c.in_ok-grouped.ensures {u = tt}).groups) in
    let p = err_from_is_err_and c.from_residual-in_err-joined.result c.from_residual-in_err-joined.ensures.1 in
    let state = seen_state c.args.span.now (g.H.BytesPartialDecoderTraits.state c.args.handle.now) in
    λ s. rw (p.1, p.2) (c.in_err-joined.ensures.sure (groups_rested taken same state c.args.numbers.now c.as_slice-groups.result.now (groups_sure it s)))

pub shard_runs::shard_by_index-returns-clause-answer : goal.shard_runs::shard_by_index-returns-clause-answer
shard_runs::shard_by_index-returns-clause-answer g t c =
    let P = c.taken_parts.result in
    let shard = stored_shard g.B.BytesToBytesCodecTraits.functions (plain_sharding c.args.codec.now) P.codecs.now P.index_codecs.now P.chunk_shape.now P.is_index_at_end c.args.form.shape.now c.args.form.data_type.now c.args.form.fill_value.now c.args.span.now (g.H.BytesPartialDecoderTraits.state c.args.handle.now) c.taken_parts.ensures.parts c.requires.taken c.requires.stands in
    let taken = c.in_ok-taken.taken in
    let same = (c.in_ok-taken.ensures {u = tt}).form in
    let it = grouped_shard shard c.args.numbers.now c.args.runs.now _ _ _ c.requires.index (inner_sizes taken same) taken.positive c.taken_parts.ensures.form.divided c.requires.below c.as_slice-groups.ensures.value ((c.in_ok-grouped.ensures {u = tt}).groups) in
    let state = seen_state c.args.span.now (g.H.BytesPartialDecoderTraits.state c.args.handle.now) in
    let answer = inner_groups taken same state c.args.numbers.now c.as_slice-groups.result.now (Ok c.in_ok-joined.joined) ((c.in_ok-joined.ensures {u = tt}).answer) in
    groups_answered it c.in_ok-joined.joined answer c.in_ok-grouped.grouped.order ((c.in_ok-grouped.ensures {u = tt}).order) c.count_places-count.result c.count_places-count.ensures.count c.requires.count c.in_order.result c.in_order.ensures.answer
