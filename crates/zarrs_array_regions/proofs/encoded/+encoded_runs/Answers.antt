use Rattle.std.proofs.Common.{◌<◌, map, arith, subst, sym}
use Rattle.zarrs_chunk.specs.ChunkShape.{product}
use Rattle.zarrs_array_to_array.specs.Mapping.{mapping_of}
use Rattle.zarrs_array_regions.proofs.EncodedWindows.{encoded_stay, tight_stays, map_stays, above_valid, encoded_here, map_goes_on, ends_here}
use Rattle.zarrs_array_to_array.proofs.CodecLists.{rest_of}
use Rattle.zarrs_array_regions.proofs.WindowCalls.{few_places, none_stay, codec_fits, codec_takes, codecs_take, codec_step, codec_stays}
use Rattle.zarrs_array_regions.proofs.encoded.+encoded_runs.Goals as goal

pub returns-in-empty : goal.returns-in-empty
returns-in-empty t c =
    let stays = none_stay c.args.codecs.now c.args.shape.now c.args.region.now c.in-empty.len_below in
    record {
      encoded = encoded_stay (map mapping_of c.args.codecs.now) c.args.shape.now c.args.region.now c.args.data_type.now c.args.held c.with_own_runs.result stays c.with_own_runs.ensures.places c.with_own_runs.ensures.held c.requires.valid;
      tight = tight_stays c.args.data_type.now c.args.held c.with_own_runs.result c.with_own_runs.ensures.held;
      filled = c.with_own_runs.ensures.filled;
      below = c.with_own_runs.ensures.below;
      apart = c.with_own_runs.ensures.apart;
      map = map_stays (map mapping_of c.args.codecs.now) c.args.shape.now c.args.region.now c.with_own_runs.result stays;
    }

pub returns-in-None : goal.returns-in-None
returns-in-None t c =
    let stays = codec_stays c.args.codecs.now c.first-item.result c.in-len1-up.len_at_least c.first-item.is c.args.shape.now c.args.region.now c.requires.region _ ((c.in-Ok.ensures {u = tt}).answer.is) c.in-None.is in
    record {
      encoded = encoded_stay (map mapping_of c.args.codecs.now) c.args.shape.now c.args.region.now c.args.data_type.now c.args.held c.with_own_runs-in-None.result stays c.with_own_runs-in-None.ensures.places c.with_own_runs-in-None.ensures.held c.requires.valid;
      tight = tight_stays c.args.data_type.now c.args.held c.with_own_runs-in-None.result c.with_own_runs-in-None.ensures.held;
      filled = c.with_own_runs-in-None.ensures.filled;
      below = c.with_own_runs-in-None.ensures.below;
      apart = c.with_own_runs-in-None.ensures.apart;
      map = map_stays (map mapping_of c.args.codecs.now) c.args.shape.now c.args.region.now c.with_own_runs-in-None.result stays;
    }

pub encoded_part-requires-clause-axes : goal.encoded_part-requires-clause-axes
encoded_part-requires-clause-axes t c = codec_fits c.args.codecs.now c.first-item.result c.in-len1-up.len_at_least c.first-item.is c.args.shape.now c.args.region.now c.requires.region

pub encoded_part-requires-clause-counted : goal.encoded_part-requires-clause-counted
encoded_part-requires-clause-counted t c = few_places (map mapping_of c.args.codecs.now) c.args.shape.now c.args.region.now c.requires.region

pub encoded_part-requires-clause-takes : goal.encoded_part-requires-clause-takes
encoded_part-requires-clause-takes t c = codec_takes c.args.codecs.now c.first-item.result c.in-len1-up.len_at_least c.first-item.is c.args.shape.now c.args.region.now c.requires.region c.args.data_type.now c.requires.takes

pub encoded_runs-made-requires : goal.encoded_runs-made-requires
encoded_runs-made-requires t c =
    let codecs = c.args.codecs.now in
    let first = c.first-item.result in
    let next = c.in-Some.next in
    let s = codec_step codecs first c.in-len1-up.len_at_least c.first-item.is c.args.shape.now c.args.region.now c.requires.region c.is_sound.ensures.sound _ next ((c.in-Ok.ensures {u = tt}).answer.is) c.in-Some.is in
    (omega arith, (s.takes, (codecs_take codecs first c.in-len1-up.len_at_least c.first-item.is c.args.shape.now c.args.region.now c.requires.region c.args.data_type.now c.requires.takes, (subst (λ n. 0 < n) (sym s.count) c.requires.filled, above_valid (map mapping_of codecs) (map mapping_of (rest_of codecs)) (mapping_of first) c.args.shape.now c.args.region.now next s c.args.data_type.now c.args.held c.in_ok-held-in-Some.held ((c.in_ok-held-in-Some.ensures {u = tt}).encoded.is)))))

pub returns-in_ok-held-in-Some-clause-encoded : goal.returns-in_ok-held-in-Some-clause-encoded
returns-in_ok-held-in-Some-clause-encoded t c =
    let codecs = c.args.codecs.now in
    let first = c.first-item.result in
    let next = c.in-Some.next in
    let s = codec_step codecs first c.in-len1-up.len_at_least c.first-item.is c.args.shape.now c.args.region.now c.requires.region c.is_sound.ensures.sound _ next ((c.in-Ok.ensures {u = tt}).answer.is) c.in-Some.is in
    encoded_here (map mapping_of codecs) (map mapping_of (rest_of codecs)) (mapping_of first) c.args.shape.now c.args.region.now next s c.args.data_type.now c.args.held c.in_ok-held-in-Some.held ((c.in_ok-held-in-Some.ensures {u = tt}).encoded.is) c.encoded_runs-made.result c.encoded_runs-made.ensures.encoded c.encoded_runs-made.ensures.map

pub returns-in_ok-held-in-Some-clause-below : goal.returns-in_ok-held-in-Some-clause-below
returns-in_ok-held-in-Some-clause-below t c =
    let codecs = c.args.codecs.now in
    let first = c.first-item.result in
    let next = c.in-Some.next in
    let s = codec_step codecs first c.in-len1-up.len_at_least c.first-item.is c.args.shape.now c.args.region.now c.requires.region c.is_sound.ensures.sound _ next ((c.in-Ok.ensures {u = tt}).answer.is) c.in-Some.is in
    ends_here c.encoded_runs-made.result (product next.sizes) (product c.args.shape.now) s.next_is.count_is c.encoded_runs-made.ensures.below

pub returns-in_ok-held-in-Some-clause-map : goal.returns-in_ok-held-in-Some-clause-map
returns-in_ok-held-in-Some-clause-map t c =
    let codecs = c.args.codecs.now in
    let first = c.first-item.result in
    let next = c.in-Some.next in
    let s = codec_step codecs first c.in-len1-up.len_at_least c.first-item.is c.args.shape.now c.args.region.now c.requires.region c.is_sound.ensures.sound _ next ((c.in-Ok.ensures {u = tt}).answer.is) c.in-Some.is in
    map_goes_on (map mapping_of codecs) (map mapping_of (rest_of codecs)) (mapping_of first) c.args.shape.now c.args.region.now next s c.encoded_runs-made.result c.encoded_runs-made.ensures.map
