use Rattle.std.proofs.Common.{◌+◌, ◌≤◌, sym, subst}
use Rattle.std.specs.Prelude.{IfOk}
use Rattle.std.specs.List.{All}
use Rattle.zarrs_chunk.specs.Answer.{Gives}
use Rattle.zarrs_chunk.specs.Runs.{joined_runs}
use Rattle.zarrs_array_regions.specs.Windows.{TakesRegion, window_of, window_places, last_window}
use Rattle.zarrs_bytes.proofs.Coding.{ok}
use Rattle.zarrs_codecs.specs.ChunkCoder.{coder_form}
use Rattle.zarrs_codecs.proofs.PartialReads.{is_readable}
use Rattle.zarrs_codecs.proofs.RegionReads.{takes_region}
use Rattle.zarrs_codecs.proofs.chunk_coder.ChunkCoder.standing_runs.Goals as goal

pub region_runs-requires : goal.region_runs-requires
region_runs-requires g c =
    let f = g.B.BytesToBytesCodecTraits.functions in
    let k = c.args.self.now in
    let form = coder_form k in
    let are = c.is_sound.ensures.mappings.mappings in
    let positive = c.is_sound.ensures.positive in
    let h = is_readable f form.chain form.sizes form.type form.fill k.encoded k.representation are positive k.taken in
    record { region = subst (λ cs. TakesRegion cs form.sizes c.args.region.now) (sym c.array_to_array_codecs-codecs.ensures.value) (takes_region f form k.encoded k.representation h are positive k.counted_whole c.args.region.now c.requires.inside c.requires.region_kept) }

pub returns-clause-places : goal.returns-clause-places
returns-clause-places g c =
    let form = coder_form c.args.self.now in
    subst (λ cs. Gives (λ runs. joined_runs runs.items) c.region_runs.result (ok (window_places (last_window cs (window_of form.sizes c.args.region.now))))) c.array_to_array_codecs-codecs.ensures.value c.region_runs.ensures.places

pub returns-clause-inside : goal.returns-clause-inside
returns-clause-inside g c =
    let f = g.B.BytesToBytesCodecTraits.functions in
    let k = c.args.self.now in
    let form = coder_form k in
    let are = c.is_sound.ensures.mappings.mappings in
    let positive = c.is_sound.ensures.positive in
    let h = is_readable f form.chain form.sizes form.type form.fill k.encoded k.representation are positive k.taken in
    subst (λ n. IfOk c.region_runs.result (λ runs. All (λ run. run.0 + run.1 ≤ n) runs.items)) (sym h.count) c.region_runs.ensures.below
