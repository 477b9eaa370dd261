use Rattle.std.proofs.Common.{◌∙◌, sym, subst, ap}
use Rattle.zarrs_chunk.specs.Answer.{Gives}
use Rattle.zarrs_chunk.specs.Indexer.{selection_of}
use Rattle.zarrs_chunk.specs.Runs.{joined_runs}
use Rattle.zarrs_codecs.specs.ChunkRead.{encoded_places}
use Rattle.zarrs_codecs.specs.ChunkCoder.{coder_form}
use Rattle.zarrs_codecs.proofs.PartialReads.{is_readable}
use Rattle.zarrs_codecs.proofs.PlannedPlaces.{others_are, standing_is}
use Rattle.zarrs_codecs.proofs.RegionReads.{region_goes}
use Rattle.zarrs_codecs.proofs.chunk_coder.ChunkCoder.ordered_runs.Goals as goal

pub returns-in-Some-clause-answer : goal.returns-in-Some-clause-answer
returns-in-Some-clause-answer g c =
    let f = g.B.BytesToBytesCodecTraits.functions in
    let k = c.args.self.now in
    let form = coder_form k in
    let selection = selection_of c.args.indexer.now in
    let region = c.in-Some.region.now in
    let are = c.is_sound.ensures.mappings.mappings in
    let positive = c.is_sound.ensures.positive in
    let h = is_readable f form.chain form.sizes form.type form.fill k.encoded k.representation are positive k.taken in
    let kept = (c.in-Some.ensures {u = tt}).region_kept in
    let goes = region_goes f form k.encoded k.representation h are positive k.counted_whole region kept.inside kept.kept in
    let there = ap (λ s. encoded_places form.type form.chain.array_to_array form.sizes s) kept.selection_is ∙ goes in
    subst (λ r. Gives (λ runs. joined_runs runs.items) c.standing_runs.result r) (sym (standing_is form selection region _ (sym (c.in-Some.ensures {u = tt}).region) there)) c.standing_runs.ensures.places

pub returns-in-None-clause-answer : goal.returns-in-None-clause-answer
returns-in-None-clause-answer g c =
    let form = coder_form c.args.self.now in
    let none = rw c.in-None.is at c.planned_region.ensures.region in
    subst (λ r. Gives (λ runs. joined_runs runs.items) c.runs.result r) (sym (others_are form (selection_of c.args.indexer.now) (sym none))) c.runs.ensures.answer
