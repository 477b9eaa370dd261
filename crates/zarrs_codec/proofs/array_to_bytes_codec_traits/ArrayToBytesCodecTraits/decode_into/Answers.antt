use Rattle.std.proofs.Common.{sym}
use Rattle.zarrs_chunk.specs.ChunkShape.{product}
use Rattle.zarrs_array_bytes.specs.ArrayBytesDecodeIntoTarget.{target_of}
use Rattle.zarrs_array_bytes.proofs.TargetLemmas.{taken_filled}
use Rattle.zarrs_codec.proofs.array_to_bytes_codec_traits.ArrayToBytesCodecTraits.decode_into.Goals as goal

pub write-requires : goal.write-requires
write-requires g c =
    record { fills = taken_filled c.args.data_type.now (product c.args.shape.now) (target_of c.args.target.now) c.in_ok-elements.elements (sym c.in_ok-check.ensures.answer) c.in_ok-elements.ensures.valid }
