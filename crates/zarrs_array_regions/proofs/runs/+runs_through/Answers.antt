use Rattle.std.proofs.Common.{map, arith}
use Rattle.zarrs_chunk.specs.ChunkShape.{product}
use Rattle.zarrs_array_to_array.specs.Mapping.{mapping_of}
use Rattle.zarrs_array_to_array.proofs.CodecLists.{rest_of}
use Rattle.zarrs_array_regions.proofs.WindowCalls.{none_stay, codec_step, codec_stays}
use Rattle.zarrs_array_regions.proofs.RegionRuns.{runs_stay, runs_go, inside_here}
use Rattle.zarrs_array_regions.proofs.runs.+runs_through.Goals as goal

pub returns-in-empty-clause-places : goal.returns-in-empty-clause-places
returns-in-empty-clause-places t c = runs_stay (map mapping_of c.args.codecs.now) c.args.shape.now c.args.region.now c.own_runs.result (none_stay c.args.codecs.now c.args.shape.now c.args.region.now c.in-empty.len_below) c.own_runs.ensures.places

pub returns-in-None-clause-places : goal.returns-in-None-clause-places
returns-in-None-clause-places t c = runs_stay (map mapping_of c.args.codecs.now) c.args.shape.now c.args.region.now c.own_runs-in-None.result (codec_stays c.args.codecs.now c.first-item.result c.in-len1-up.len_at_least c.first-item.is c.args.shape.now c.args.region.now c.requires.region _ ((c.in_ok-next_window-in-len1-up.ensures {u = tt}).answer.is) c.in-None.is) c.own_runs-in-None.ensures.places

pub runs_through-requires : goal.runs_through-requires
runs_through-requires t c =
    let codecs = c.args.codecs.now in
    let first = c.first-item.result in
    let next = c.in-Some.next in
    let s = codec_step codecs first c.in-len1-up.len_at_least c.first-item.is c.args.shape.now c.args.region.now c.requires.region c.is_sound.ensures.sound _ next ((c.in_ok-next_window-in-len1-up.ensures {u = tt}).answer.is) c.in-Some.is in
    (omega arith, s.takes)

pub returns-in-Some-clause-places : goal.returns-in-Some-clause-places
returns-in-Some-clause-places t c =
    let codecs = c.args.codecs.now in
    let first = c.first-item.result in
    let next = c.in-Some.next in
    let s = codec_step codecs first c.in-len1-up.len_at_least c.first-item.is c.args.shape.now c.args.region.now c.requires.region c.is_sound.ensures.sound _ next ((c.in_ok-next_window-in-len1-up.ensures {u = tt}).answer.is) c.in-Some.is in
    runs_go (map mapping_of codecs) (map mapping_of (rest_of codecs)) (mapping_of first) c.args.shape.now c.args.region.now next s c.runs_through.result c.runs_through.ensures.places

pub returns-in-Some-clause-below : goal.returns-in-Some-clause-below
returns-in-Some-clause-below t c =
    let codecs = c.args.codecs.now in
    let first = c.first-item.result in
    let next = c.in-Some.next in
    let s = codec_step codecs first c.in-len1-up.len_at_least c.first-item.is c.args.shape.now c.args.region.now c.requires.region c.is_sound.ensures.sound _ next ((c.in_ok-next_window-in-len1-up.ensures {u = tt}).answer.is) c.in-Some.is in
    inside_here c.runs_through.result (product next.sizes) (product c.args.shape.now) s.next_is.count_is c.runs_through.ensures.below
