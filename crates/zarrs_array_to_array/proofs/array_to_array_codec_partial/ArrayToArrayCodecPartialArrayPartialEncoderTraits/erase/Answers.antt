use Rattle.std.proofs.Common.{ap}
use Rattle.zarrs_codec.specs.ArrayWriter.{mapped_writer}
use Rattle.zarrs_array_to_array.proofs.array_to_array_codec_partial.ArrayToArrayCodecPartialArrayPartialEncoderTraits.erase.Goals as goal

pub returns-clause-writer_kept : goal.returns-clause-writer_kept
returns-clause-writer_kept g c =
    let stage = c.args.self.now in
    let coordinates = g.C.ArrayToArrayCodecTraits.coordinates stage.codec stage.shape in
    let asked = g.C.ArrayToArrayCodecTraits.asked stage.codec stage.shape in
    ap (mapped_writer coordinates asked (g.C.CodecTraits.reads_in_part stage.codec).partial_decode stage.shape) c.erase.ensures.writer_kept
