use Rattle.zarrs_chunk.specs.ChunkShape.{product}
use Rattle.zarrs_bytes.specs.PartialRead.{place_size}
use Rattle.zarrs_bytes.proofs.Ranges.{runs_fit}
use Rattle.zarrs_bytes.proofs.Taken.{taken_fixed, taken_fill, taken_small}
use Rattle.zarrs_codecs.proofs.PartialCalls.{bytes_taken, packed_taken}
use Rattle.zarrs_codecs.proofs.partial_decoder.codec_read.plain_runs.Goals as goal

pub read_runs-requires-clause-fixed : goal.read_runs-requires-clause-fixed
read_runs-requires-clause-fixed g c =
    taken_fixed c.in-Bytes.codec c.args.form.shape.now c.args.form.data_type.now c.args.form.fill_value.now (bytes_taken g.B.BytesToBytesCodecTraits.functions c.args.codec.now c.in-Bytes.codec c.args.form.shape.now c.args.form.data_type.now c.args.form.fill_value.now c.in-Bytes.is c.requires.taken)

pub read_runs-requires-clause-filling : goal.read_runs-requires-clause-filling
read_runs-requires-clause-filling g c =
    taken_fill c.in-Bytes.codec c.args.form.shape.now c.args.form.data_type.now c.args.form.fill_value.now (bytes_taken g.B.BytesToBytesCodecTraits.functions c.args.codec.now c.in-Bytes.codec c.args.form.shape.now c.args.form.data_type.now c.args.form.fill_value.now c.in-Bytes.is c.requires.taken)

pub read_runs-requires-clause-ends : goal.read_runs-requires-clause-ends
read_runs-requires-clause-ends g c =
    let small = taken_small c.in-Bytes.codec c.args.form.shape.now c.args.form.data_type.now c.args.form.fill_value.now (bytes_taken g.B.BytesToBytesCodecTraits.functions c.args.codec.now c.in-Bytes.codec c.args.form.shape.now c.args.form.data_type.now c.args.form.fill_value.now c.in-Bytes.is c.requires.taken) in
    runs_fit c.args.runs.now (product c.args.form.shape.now) (place_size c.args.form.data_type.now) c.requires.below small

pub read_runs-requires-in-PackBits-clause-taken : goal.read_runs-requires-in-PackBits-clause-taken
read_runs-requires-in-PackBits-clause-taken g c =
    packed_taken g.B.BytesToBytesCodecTraits.functions c.args.codec.now c.in-PackBits.codec c.args.form.shape.now c.args.form.data_type.now c.args.form.fill_value.now c.in-PackBits.is c.requires.taken
