use Rattle.std.proofs.Common.{map}
use Rattle.zarrs_array_to_array.specs.Mapping.{mapping_of}
use Rattle.zarrs_codecs.proofs.WrittenRegions.{coder_takes, coder_takes_type, stands_there}
use Rattle.zarrs_codecs.proofs.chunk_coder.ChunkCoder.encoded_region.Goals as goal

pub encode_region-requires-clause-region : goal.encode_region-requires-clause-region
encode_region-requires-clause-region g c =
    coder_takes c.args.self.now c.is_sound.ensures.mappings.mappings c.is_sound.ensures.positive c.args.region.now c.requires.inside c.requires.region_kept (map mapping_of c.array_to_array_codecs-codecs.result.now) c.array_to_array_codecs-codecs.ensures.value

pub encode_region-requires-clause-takes : goal.encode_region-requires-clause-takes
encode_region-requires-clause-takes g c =
    coder_takes_type c.args.self.now c.is_sound.ensures.mappings.mappings c.is_sound.ensures.positive c.args.region.now c.requires.inside c.requires.region_kept (map mapping_of c.array_to_array_codecs-codecs.result.now) c.array_to_array_codecs-codecs.ensures.value

pub returns-clause-there : goal.returns-clause-there
returns-clause-there g c =
    let made = c.in_ok-runs.ensures {u = tt} in
    let there = made.encoded.is in
    stands_there c.args.self.now c.is_sound.ensures.mappings.mappings c.is_sound.ensures.positive c.args.region.now c.requires.inside c.requires.region_kept (map mapping_of c.array_to_array_codecs-codecs.result.now) c.array_to_array_codecs-codecs.ensures.value
    c.args.codec.now c.args.elements.now c.in_ok-lent.lent c.in_ok-runs.encoded c.in_ok-runs.runs.items c.requires.writes_in_place ((c.in_ok-lent.ensures {u = tt}).lent) (record { places = there.0; filled = made.filled; below = made.below; apart = made.apart }) there.1
