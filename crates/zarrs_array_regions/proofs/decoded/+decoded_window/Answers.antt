use Rattle.std.proofs.Common.{◌≡◌, ◌<◌, sym, map, Ok, arith, refl, subst}
use Rattle.zarrs_array_bytes.specs.Validity.{validity}
use Rattle.zarrs_array_to_array.specs.Mapping.{mapping_of}
use Rattle.zarrs_array_regions.proofs.DecodedWindows.{below_valid, decoded_here, decoded_last, decoded_stay}
use Rattle.zarrs_array_to_array.proofs.CodecLists.{rest_of}
use Rattle.zarrs_array_regions.proofs.WindowCalls.{one_mapping, some_codecs, few_places, none_stay, codec_fits, codec_takes, codecs_take, codec_step, codec_stays}
use Rattle.zarrs_array_regions.proofs.decoded.+decoded_window.Goals as goal

pub decoded_part-requires-clause-axes : goal.decoded_part-requires-clause-axes
decoded_part-requires-clause-axes t c = codec_fits c.args.codecs.now c.last-item.result c.in-len1.len_at_least c.last-item.is c.args.shape.now c.args.region.now c.requires.region

pub decoded_part-requires-clause-counted : goal.decoded_part-requires-clause-counted
decoded_part-requires-clause-counted t c = few_places (map mapping_of c.args.codecs.now) c.args.shape.now c.args.region.now c.requires.region

pub decoded_window-requires : goal.decoded_window-requires
decoded_window-requires t c =
    let codecs = c.args.codecs.now in
    let first = c.first-item.result in
    let next = c.in-Some.next in
    let s = codec_step codecs first (some_codecs c.args.codecs.now c.in-len1-up.len_at_least) c.first-item.is c.args.shape.now c.args.region.now c.requires.region c.is_sound.ensures.sound _ next ((c.in-Ok.ensures {u = tt}).answer.is) c.in-Some.is in
    (omega arith, (s.takes, (codecs_take codecs first (some_codecs c.args.codecs.now c.in-len1-up.len_at_least) c.first-item.is c.args.shape.now c.args.region.now c.requires.region c.args.data_type.now c.requires.takes, (subst (λ n. 0 < n) (sym s.count) c.requires.filled, subst (λ n. validity c.args.data_type.now n c.args.held ≡ Ok tt) (sym s.count) c.requires.valid))))

pub decoded_part-requires-in-Some-clause-axes : goal.decoded_part-requires-in-Some-clause-axes
decoded_part-requires-in-Some-clause-axes t c = codec_fits c.args.codecs.now c.first-item.result (some_codecs c.args.codecs.now c.in-len1-up.len_at_least) c.first-item.is c.args.shape.now c.args.region.now c.requires.region

pub decoded_part-requires-in-Some-clause-counted : goal.decoded_part-requires-in-Some-clause-counted
decoded_part-requires-in-Some-clause-counted t c = few_places (map mapping_of c.args.codecs.now) c.args.shape.now c.args.region.now c.requires.region

pub decoded_part-requires-in-Some-clause-takes : goal.decoded_part-requires-in-Some-clause-takes
decoded_part-requires-in-Some-clause-takes t c = codec_takes c.args.codecs.now c.first-item.result (some_codecs c.args.codecs.now c.in-len1-up.len_at_least) c.first-item.is c.args.shape.now c.args.region.now c.requires.region c.args.data_type.now c.requires.takes

pub decoded_part-requires-in-Some-clause-valid : goal.decoded_part-requires-in-Some-clause-valid
decoded_part-requires-in-Some-clause-valid t c =
    let codecs = c.args.codecs.now in
    let first = c.first-item.result in
    let next = c.in-Some.next in
    let s = codec_step codecs first (some_codecs c.args.codecs.now c.in-len1-up.len_at_least) c.first-item.is c.args.shape.now c.args.region.now c.requires.region c.is_sound.ensures.sound _ next ((c.in-Ok.ensures {u = tt}).answer.is) c.in-Some.is in
    below_valid (map mapping_of codecs) (map mapping_of (rest_of codecs)) (mapping_of first) c.args.shape.now c.args.region.now next s c.args.data_type.now c.args.held c.in_ok-held-in-Some.held ((c.in_ok-held-in-Some.ensures {u = tt}).decoded.is)

pub returns-in-empty-clause-decoded : goal.returns-in-empty-clause-decoded
returns-in-empty-clause-decoded t c =
    record { is = decoded_stay (map mapping_of c.args.codecs.now) c.args.shape.now c.args.region.now c.args.data_type.now c.args.held (none_stay c.args.codecs.now c.args.shape.now c.args.region.now c.in-empty.len_below) c.requires.valid; no_fault = refl }

pub returns-in-len1-clause-decoded : goal.returns-in-len1-clause-decoded
returns-in-len1-clause-decoded t c =
    let codecs = c.args.codecs.now in
    decoded_last (map mapping_of codecs) (mapping_of c.last-item.result) c.args.shape.now c.args.region.now c.args.data_type.now c.args.held c.decoded_part.result (one_mapping codecs c.last-item.result c.in-len1.len_at_least c.in-len1.len_below c.last-item.is) c.decoded_part.ensures.decoded

pub returns-in-None-clause-decoded : goal.returns-in-None-clause-decoded
returns-in-None-clause-decoded t c =
    let codecs = c.args.codecs.now in
    let stays = codec_stays codecs c.first-item.result (some_codecs c.args.codecs.now c.in-len1-up.len_at_least) c.first-item.is c.args.shape.now c.args.region.now c.requires.region _ ((c.in-Ok.ensures {u = tt}).answer.is) c.in-None.is in
    record { is = decoded_stay (map mapping_of codecs) c.args.shape.now c.args.region.now c.args.data_type.now c.args.held stays c.requires.valid; no_fault = refl }

pub returns-in_ok-held-in-Some-clause-decoded : goal.returns-in_ok-held-in-Some-clause-decoded
returns-in_ok-held-in-Some-clause-decoded t c =
    let codecs = c.args.codecs.now in
    let first = c.first-item.result in
    let next = c.in-Some.next in
    let s = codec_step codecs first (some_codecs c.args.codecs.now c.in-len1-up.len_at_least) c.first-item.is c.args.shape.now c.args.region.now c.requires.region c.is_sound.ensures.sound _ next ((c.in-Ok.ensures {u = tt}).answer.is) c.in-Some.is in
    decoded_here (map mapping_of codecs) (map mapping_of (rest_of codecs)) (mapping_of first) c.args.shape.now c.args.region.now next s c.args.data_type.now c.args.held c.in_ok-held-in-Some.held ((c.in_ok-held-in-Some.ensures {u = tt}).decoded.is) c.decoded_part-in-Some.result c.decoded_part-in-Some.ensures.decoded
