use Rattle.std.proofs.Common.{ap}
use Rattle.zarrs_codec.specs.ArrayReader.{mapped_reader}
use Rattle.zarrs_codec.specs.ArrayWriter.{mapped_writer}
use Rattle.zarrs_array_to_array.proofs.array_to_array_codec_partial.ArrayToArrayCodecPartialArrayPartialDecoderTraits.exists.Goals as goal

pub returns-clause-left : goal.returns-clause-left
returns-clause-left g c =
    let stage = c.args.self.now in
    let coordinates = g.C.ArrayToArrayCodecTraits.coordinates stage.codec stage.shape in
    let asked = g.C.ArrayToArrayCodecTraits.asked stage.codec stage.shape in
    record {
      left = c.exists.ensures.left.left;
      same_reference = c.exists.ensures.left.same_reference;
      form_kept = ap (mapped_reader coordinates asked (g.C.CodecTraits.reads_in_part stage.codec).partial_decode stage.shape) c.exists.ensures.left.form_kept;
    }

pub returns-clause-writer_kept : goal.returns-clause-writer_kept
returns-clause-writer_kept g c =
    let stage = c.args.self.now in
    let coordinates = g.C.ArrayToArrayCodecTraits.coordinates stage.codec stage.shape in
    let asked = g.C.ArrayToArrayCodecTraits.asked stage.codec stage.shape in
    ap (mapped_writer coordinates asked (g.C.CodecTraits.reads_in_part stage.codec).partial_decode stage.shape) c.exists.ensures.writer_kept
