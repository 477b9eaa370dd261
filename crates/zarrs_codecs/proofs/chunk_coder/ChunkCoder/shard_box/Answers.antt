use Rattle.std.proofs.Common.{map, sym, subst}
use Rattle.zarrs_array_regions.specs.Windows.{TakesRegion}
use Rattle.zarrs_array_to_array.specs.Mapping.{mapping_of}
use Rattle.zarrs_chain_meaning.proofs.NestedStages.{chained_of}
use Rattle.zarrs_codecs.specs.ChunkCoder.{coder_form}
use Rattle.zarrs_codecs.proofs.BoxReads.{last_box, same_sizes}
use Rattle.zarrs_codecs.proofs.PartialReads.{is_readable}
use Rattle.zarrs_codecs.proofs.RegionReads.{takes_region}
use Rattle.zarrs_codecs.proofs.chunk_coder.ChunkCoder.shard_box.Goals as goal

pub region_window-requires : goal.region_window-requires
region_window-requires g c =
    let f = g.B.BytesToBytesCodecTraits.functions in
    let k = c.args.self.now in
    let form = coder_form k in
    let are = c.is_sound.ensures.mappings.mappings in
    let positive = c.is_sound.ensures.positive in
    let h = is_readable f form.chain form.sizes form.type form.fill k.encoded k.representation are positive k.taken in
    let takes = subst (λ cs. TakesRegion cs form.sizes c.args.region.now) (sym c.array_to_array_codecs-codecs.ensures.value) (takes_region f form k.encoded k.representation h are positive k.counted_whole c.args.region.now c.requires.inside c.requires.region_kept) in
    record { region = takes }

pub returns-clause-standing : goal.returns-clause-standing
returns-clause-standing g c =
    let f = g.B.BytesToBytesCodecTraits.functions in
    let k = c.args.self.now in
    let form = coder_form k in
    let are = c.is_sound.ensures.mappings.mappings in
    let positive = c.is_sound.ensures.positive in
    let h = is_readable f form.chain form.sizes form.type form.fill k.encoded k.representation are positive k.taken in
    let window = c.in_ok-window.window in
    let chained_is = chained_of form.type form.chain.array_to_array form.sizes h.map_is h.mapped in
    let of = same_sizes window.sizes k.encoded (c.if-ne.ensures {u = tt}) in
    let box = last_box form.chain.array_to_array (map mapping_of c.array_to_array_codecs-codecs.result.now) form.sizes k.encoded h.map_is c.args.region.now window c.array_to_array_codecs-codecs.ensures.value ((c.in_ok-window.ensures {u = tt}).answer.is) of are positive chained_is c.requires.region_kept c.requires.inside c.requires.filled in
    record { places = box.places; inside = box.inside; filled = box.filled }
