use Rattle.std.proofs.Common.{◌≡◌, ℕ, true, false, List, map, ap, sym, rules, subst, ◌∙◌}
use Rattle.zarrs_array_regions.specs.WindowLaws.{region_places}
use Rattle.zarrs_chain_meaning.specs.sharding.Sharding.{is_stored}
use Rattle.zarrs_chunk.specs.declared.codec_error.CodecError.{CodecError}
use Rattle.zarrs_chain_meaning.proofs.ArraySteps.{ok_is}
use Rattle.zarrs_bytes.proofs.Coding.{ok}
use Rattle.zarrs_chunk.specs.Runs.{joined_runs}
use Rattle.zarrs_codecs.proofs.ShardSpans.{filled_is, inside_is, inside_sure}
use Rattle.zarrs_codecs.specs.ChunkRead.{AnswersRuns}
use Rattle.zarrs_data_type.specs.Element.{Chunk, fill_element}
use Rattle.std.specs.Prelude.{Result}
use Rattle.zarrs_codecs.specs.TakenChain.{inner_form}
use Rattle.zarrs_codecs.proofs.sharding.box_reads.read_inner_box.Goals as goal

pub returns-then-not-has_span-clause-answer : goal.returns-then-not-has_span-clause-answer
returns-then-not-has_span-clause-answer g c =
    let form = inner_form c.args.taken.now in
    let f = g.B.BytesToBytesCodecTraits.functions in
    let places = region_places form.sizes c.args.region.now in
    let e : is_stored c.args.place ≡ false = search rules in
    let same : joined_runs c.deref.result.now ≡ places = ap joined_runs c.deref.ensures.value ∙ sym (ok_is _ _ ((c.in_ok-runs.ensures {u = tt}).answer)) in
    let filled = filled_is f form.chain form.sizes form.type form.fill c.args.span.now (g.H.BytesPartialDecoderTraits.state c.args.handle.now) c.requires.stands c.args.place places e in
    subst (λ (x : Result Chunk CodecError). AnswersRuns form.type x c.fill_runs.result) (ap (λ (ps : List ℕ). ok (map (λ _. fill_element form.type form.fill) ps)) same ∙ filled) (search rules)

pub returns-clause-answer : goal.returns-clause-answer
returns-clause-answer g c =
    let form = inner_form c.args.taken.now in
    let f = g.B.BytesToBytesCodecTraits.functions in
    let region = c.args.region.now in
    let e : is_stored c.args.place ≡ true = search rules in
    subst (λ (x : Result Chunk CodecError). AnswersRuns form.type x c.chain_box.result)
    (inside_is f form.chain form.sizes form.type form.fill c.args.span.now (g.H.BytesPartialDecoderTraits.state c.args.handle.now) c.requires.stands c.args.place (region_places form.sizes region) c.in_ok-inside.inside e c.in_ok-inside.ensures.answer)
    c.chain_box.ensures.answer

pub returns-clause-sure : goal.returns-clause-sure
returns-clause-sure g c =
    let form = inner_form c.args.taken.now in
    let f = g.B.BytesToBytesCodecTraits.functions in
    let region = c.args.region.now in
    let e : is_stored c.args.place ≡ true = search rules in
    λ s. c.chain_box.ensures.sure
    (inside_sure f form.chain form.sizes form.type form.fill c.args.span.now (g.H.BytesPartialDecoderTraits.state c.args.handle.now) c.requires.stands c.args.place (region_places form.sizes region) c.in_ok-inside.inside e c.in_ok-inside.ensures.answer s)
