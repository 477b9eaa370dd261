use Rattle.std.proofs.Common.{arith, ◌≡◌, ◌<◌, ◌++◌, ℕ, List, [], get_or, length, map, ap, sym, subst, ◌∙◌}
use Rattle.std.proofs.lemmas.Bool.Decides.{nat_tests}
use Rattle.std.proofs.lemmas.List.{append-nil}
use Rattle.std.proofs.lemmas.List.FromFn.{length-range_with_len}
use Rattle.std.proofs.lemmas.Result.{err_from_is_err_and}
use Rattle.std.specs.List.{range_with_len}
use Rattle.std.specs.Prelude.{IsOkAnd}
use Rattle.zarrs_array_bytes.specs.Validity.{Holds}
use Rattle.zarrs_chain_meaning.specs.sharding.Sharding.{spans_of}
use Rattle.zarrs_chunk.specs.ChunkShape.{product}
use Rattle.zarrs_chunk.specs.Tuples.{row_major}
use Rattle.zarrs_codecs.proofs.PartSteps.{at_part, others_sure, part_put, part_refused, part_sure, part_valid, so_far_valid}
use Rattle.zarrs_codecs.proofs.PartWalks.{PutTo, counted_is, filled_blank, put_ends, put_starts}
use Rattle.zarrs_codecs.proofs.SpanSeen.{stands_value}
use Rattle.zarrs_codecs.specs.BoxReads.{blank_box, part_group, parts_read}
use Rattle.zarrs_codecs.specs.ChunkRead.{are_given_sure}
use Rattle.zarrs_codecs.specs.SpanReads.{StandsIn, chain_read, chain_rests, seen_state, stored_groups_rest}
use Rattle.zarrs_codecs.specs.TakenChain.{inner_form}
use Rattle.zarrs_codecs.proofs.sharding.part_reads.read_parts.Goals as goal

pub fill_runs-requires-clause-count : goal.fill_runs-requires-clause-count
fill_runs-requires-clause-count g c =
    let count = counted_is (product c.args.lengths.now) c.in_ok-count.count c.requires.lengths c.in_ok-count.ensures.answer in
    let same : length (range_with_len 0 c.in_ok-count.count ++ []) ≡ c.in_ok-count.count = ap length (append-nil (range_with_len 0 c.in_ok-count.count)) ∙ length-range_with_len 0 c.in_ok-count.count in
    let few = c.requires.lengths in
    omega (arith, same, count, few)

pub loop-part-init : goal.loop-part-init
loop-part-init g c =
    let form = inner_form c.args.taken.now in
    let f = g.B.BytesToBytesCodecTraits.functions in
    let count = counted_is (product c.args.lengths.now) c.in_ok-count.count c.requires.lengths c.in_ok-count.ensures.answer in
    let held = filled_blank form.type form.fill c.args.lengths.now c.in_ok-count.count c.in_ok-elements.elements count ((c.in_ok-elements.ensures {u = tt}).answer.is) in
    record {
      walk = λ value e. put_starts (chain_read f form.chain) form.sizes form.type form.fill value (spans_of c.args.numbers.now) c.args.grid.now c.args.lengths.now c.args.parts.now c.in_ok-elements.elements held;
      sure = λ value e s. s;
      tight = (c.in_ok-elements.ensures {u = tt}).tight;
      state = (c.in_ok-read_parts_ahead.ensures {u = tt}).left.left;
      lent = (c.in_ok-read_parts_ahead.ensures {u = tt}).left.same_reference;
    }

pub read_inner_box-requires-clause-stands : goal.read_inner_box-requires-clause-stands
read_inner_box-requires-clause-stands g c = subst (λ s. StandsIn c.args.span.now s) (sym c.loop-part.invariant.state) c.requires.stands

pub returns-in_err-content-clause-answer : goal.returns-in_err-content-clause-answer
returns-in_err-content-clause-answer g c =
    let D = g.H.BytesPartialDecoderTraits in
    let inv = c.loop-part.invariant in
    let under : c.loop-part.part-index < length c.args.parts.now = grind (arith, nat_tests) in
    let it = c.part-item.result in
    let at : c.place_at-place.result ≡ get_or (spans_of c.args.numbers.now) (row_major c.args.grid.now it.chunk.items) (0, 0) = c.place_at-place.ensures.value ∙ ap (λ (xs : List ℕ). get_or (spans_of c.args.numbers.now) (row_major c.args.grid.now xs) (0, 0)) c.as_slice.ensures.value in
    let step = at_part c.args.taken.now c.args.numbers.now c.args.grid.now c.args.lengths.now c.args.parts.now c.loop-part.part-index c.loop-part.elements it c.place_at-place.result c.args.span.now (D.state c.args.handle.now) (D.state c.loop-part.handle) c.requires.stands inv.state inv.walk under c.part-item.is c.requires.parts at in
    let p = err_from_is_err_and c.from_residual-in_err-content.result c.from_residual-in_err-content.ensures.1 in
    rw (p.1, p.2) (part_refused step c.in_err-content.field-0.0 c.in_err-content.ensures.answer)

pub returns-in_err-content-clause-sure : goal.returns-in_err-content-clause-sure
returns-in_err-content-clause-sure g c =
    let form = inner_form c.args.taken.now in
    let D = g.H.BytesPartialDecoderTraits in
    let inv = c.loop-part.invariant in
    let under : c.loop-part.part-index < length c.args.parts.now = grind (arith, nat_tests) in
    let it = c.part-item.result in
    let at : c.place_at-place.result ≡ get_or (spans_of c.args.numbers.now) (row_major c.args.grid.now it.chunk.items) (0, 0) = c.place_at-place.ensures.value ∙ ap (λ (xs : List ℕ). get_or (spans_of c.args.numbers.now) (row_major c.args.grid.now xs) (0, 0)) c.as_slice.ensures.value in
    let step = at_part c.args.taken.now c.args.numbers.now c.args.grid.now c.args.lengths.now c.args.parts.now c.loop-part.part-index c.loop-part.elements it c.place_at-place.result c.args.span.now (D.state c.args.handle.now) (D.state c.loop-part.handle) c.requires.stands inv.state inv.walk under c.part-item.is c.requires.parts at in
    let p = err_from_is_err_and c.from_residual-in_err-content.result c.from_residual-in_err-content.ensures.1 in
    let sure = (seen_state c.args.span.now (D.state c.args.handle.now)).sure in
    λ s. rw (p.1, p.2) (c.in_err-content.ensures.sure (part_sure step
    (inv.sure step.value step.value_is (sym (ap (λ v. are_given_sure sure (stored_groups_rest (chain_rests g.B.BytesToBytesCodecTraits.functions form.chain) form.sizes form.type form.fill v (spans_of c.args.numbers.now) (map (part_group form.sizes c.args.grid.now) c.args.parts.now))) step.value_is) ∙ s))))

pub put_part-requires-clause-valid : goal.put_part-requires-clause-valid
put_part-requires-clause-valid g c =
    let D = g.H.BytesPartialDecoderTraits in
    let inv = c.loop-part.invariant in
    let under : c.loop-part.part-index < length c.args.parts.now = grind (arith, nat_tests) in
    let it = c.part-item.result in
    let at : c.place_at-place.result ≡ get_or (spans_of c.args.numbers.now) (row_major c.args.grid.now it.chunk.items) (0, 0) = c.place_at-place.ensures.value ∙ ap (λ (xs : List ℕ). get_or (spans_of c.args.numbers.now) (row_major c.args.grid.now xs) (0, 0)) c.as_slice.ensures.value in
    let step = at_part c.args.taken.now c.args.numbers.now c.args.grid.now c.args.lengths.now c.args.parts.now c.loop-part.part-index c.loop-part.elements it c.place_at-place.result c.args.span.now (D.state c.args.handle.now) (D.state c.loop-part.handle) c.requires.stands inv.state inv.walk under c.part-item.is c.requires.parts at in
    so_far_valid step

pub put_part-requires-clause-content_valid : goal.put_part-requires-clause-content_valid
put_part-requires-clause-content_valid g c =
    let D = g.H.BytesPartialDecoderTraits in
    let inv = c.loop-part.invariant in
    let under : c.loop-part.part-index < length c.args.parts.now = grind (arith, nat_tests) in
    let it = c.part-item.result in
    let at : c.place_at-place.result ≡ get_or (spans_of c.args.numbers.now) (row_major c.args.grid.now it.chunk.items) (0, 0) = c.place_at-place.ensures.value ∙ ap (λ (xs : List ℕ). get_or (spans_of c.args.numbers.now) (row_major c.args.grid.now xs) (0, 0)) c.as_slice.ensures.value in
    let step = at_part c.args.taken.now c.args.numbers.now c.args.grid.now c.args.lengths.now c.args.parts.now c.loop-part.part-index c.loop-part.elements it c.place_at-place.result c.args.span.now (D.state c.args.handle.now) (D.state c.loop-part.handle) c.requires.stands inv.state inv.walk under c.part-item.is c.requires.parts at in
    part_valid step c.in_ok-content.content ((c.in_ok-content.ensures {u = tt}).answer)

pub loop-part-preserved : goal.loop-part-preserved
loop-part-preserved g c =
    let D = g.H.BytesPartialDecoderTraits in
    let inv = c.loop-part.invariant in
    let under : c.loop-part.part-index < length c.args.parts.now = grind (arith, nat_tests) in
    let it = c.part-item.result in
    let at : c.place_at-place.result ≡ get_or (spans_of c.args.numbers.now) (row_major c.args.grid.now it.chunk.items) (0, 0) = c.place_at-place.ensures.value ∙ ap (λ (xs : List ℕ). get_or (spans_of c.args.numbers.now) (row_major c.args.grid.now xs) (0, 0)) c.as_slice.ensures.value in
    let step = at_part c.args.taken.now c.args.numbers.now c.args.grid.now c.args.lengths.now c.args.parts.now c.loop-part.part-index c.loop-part.elements it c.place_at-place.result c.args.span.now (D.state c.args.handle.now) (D.state c.loop-part.handle) c.requires.stands inv.state inv.walk under c.part-item.is c.requires.parts at in
    let same = c.in_ok-content.ensures {u = tt} in
    record {
      walk = part_put step c.in_ok-content.content same.answer c.in_ok-elements-2.elements ((c.in_ok-elements-2.ensures {u = tt}).answer.is);
      sure = λ value e s. others_sure step value (inv.sure value e s);
      tight = (c.in_ok-elements-2.ensures {u = tt}).tight inv.tight.blank same.tight.blank;
      state = same.left.left ∙ inv.state;
      lent = same.left.same_reference ∙ inv.lent;
    }

pub returns-clause-answer : goal.returns-clause-answer
returns-clause-answer g c =
    let form = inner_form c.args.taken.now in
    let f = g.B.BytesToBytesCodecTraits.functions in
    let D = g.H.BytesPartialDecoderTraits in
    let read = chain_read f form.chain in
    let spans = spans_of c.args.numbers.now in
    let there = stands_value c.args.span.now (D.state c.args.handle.now) c.requires.stands in
    let end : c.loop-part.part-index ≡ length c.args.parts.now = grind (arith, nat_tests) in
    let walk = subst (λ k. PutTo read form.sizes form.type form.fill there.value spans c.args.grid.now c.args.lengths.now c.args.parts.now (blank_box form.type form.fill c.args.lengths.now) k c.loop-part.elements) end (c.loop-part.invariant.walk there.value there.is) in
    subst (λ v. IsOkAnd (parts_read read form.sizes form.type form.fill v spans c.args.grid.now c.args.lengths.now c.args.parts.now (blank_box form.type form.fill c.args.lengths.now)) (Holds form.type c.loop-part.elements)) (sym there.is)
    (put_ends read form.sizes form.type form.fill there.value spans c.args.grid.now c.args.lengths.now c.args.parts.now (blank_box form.type form.fill c.args.lengths.now) c.loop-part.elements walk)
