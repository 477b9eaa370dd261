use Rattle.std.proofs.Common.{◌+◌, ◌≤◌, sym, subst}
use Rattle.std.specs.List.{All}
use Rattle.zarrs_array_regions.specs.Windows.{TakesRegion}
use Rattle.zarrs_codecs.specs.ChunkCoder.{coder_form}
use Rattle.zarrs_codecs.proofs.PartialReads.{is_readable}
use Rattle.zarrs_codecs.proofs.RegionReads.{takes_region}
use Rattle.zarrs_codecs.proofs.chunk_coder.ChunkCoder.read_standing.Goals as goal

pub region_runs-requires : goal.region_runs-requires
region_runs-requires g c =
    let f = g.B.BytesToBytesCodecTraits.functions in
    let k = c.args.self.now in
    let form = coder_form k in
    let are = c.is_sound.ensures.mappings.mappings in
    let positive = c.is_sound.ensures.positive in
    let h = is_readable f form.chain form.sizes form.type form.fill k.encoded k.representation are positive k.taken in
    let takes = subst (λ cs. TakesRegion cs form.sizes c.args.region.now) (sym c.array_to_array_codecs-codecs.ensures.value) (takes_region f form k.encoded k.representation h are positive k.counted_whole c.args.region.now c.requires.inside c.requires.region_kept) in
    record { region = takes }

pub read_runs-requires-clause-inside : goal.read_runs-requires-clause-inside
read_runs-requires-clause-inside g c =
    let f = g.B.BytesToBytesCodecTraits.functions in
    let k = c.args.self.now in
    let form = coder_form k in
    let are = c.is_sound.ensures.mappings.mappings in
    let positive = c.is_sound.ensures.positive in
    let h = is_readable f form.chain form.sizes form.type form.fill k.encoded k.representation are positive k.taken in
    rw c.deref.ensures.value (subst (λ n. All (λ run. run.0 + run.1 ≤ n) c.in_ok-runs.runs.items) (sym h.count) ((c.in_ok-runs.ensures {u = tt}).below))
