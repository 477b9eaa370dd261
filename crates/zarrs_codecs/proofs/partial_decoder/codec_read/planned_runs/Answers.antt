use Rattle.std.proofs.Common.{rules}
use Rattle.zarrs_chunk.specs.ChunkShape.{product}
use Rattle.zarrs_chunk.specs.Runs.{joined_runs}
use Rattle.zarrs_bytes.specs.PartialRead.{place_size}
use Rattle.zarrs_bytes.proofs.Ranges.{runs_fit}
use Rattle.zarrs_bytes.proofs.Taken.{taken_fixed, taken_fill, taken_small}
use Rattle.zarrs_codecs.proofs.PartialCalls.{bytes_planned, bytes_taken, packed_planned, packed_taken}
use Rattle.zarrs_codecs.proofs.partial_decoder.codec_read.planned_runs.Goals as goal

pub planned_runs-requires-clause-fixed : goal.planned_runs-requires-clause-fixed
planned_runs-requires-clause-fixed g c =
    taken_fixed c.in-Bytes.codec c.args.form.shape.now c.args.form.data_type.now c.args.form.fill_value.now (bytes_taken g.B.BytesToBytesCodecTraits.functions c.args.codec.now c.in-Bytes.codec c.args.form.shape.now c.args.form.data_type.now c.args.form.fill_value.now c.in-Bytes.is c.requires.taken)

pub planned_runs-requires-clause-filling : goal.planned_runs-requires-clause-filling
planned_runs-requires-clause-filling g c =
    taken_fill c.in-Bytes.codec c.args.form.shape.now c.args.form.data_type.now c.args.form.fill_value.now (bytes_taken g.B.BytesToBytesCodecTraits.functions c.args.codec.now c.in-Bytes.codec c.args.form.shape.now c.args.form.data_type.now c.args.form.fill_value.now c.in-Bytes.is c.requires.taken)

pub planned_runs-requires-clause-ends : goal.planned_runs-requires-clause-ends
planned_runs-requires-clause-ends g c =
    let small = taken_small c.in-Bytes.codec c.args.form.shape.now c.args.form.data_type.now c.args.form.fill_value.now (bytes_taken g.B.BytesToBytesCodecTraits.functions c.args.codec.now c.in-Bytes.codec c.args.form.shape.now c.args.form.data_type.now c.args.form.fill_value.now c.in-Bytes.is c.requires.taken) in
    runs_fit c.args.runs.now (product c.args.form.shape.now) (place_size c.args.form.data_type.now) c.requires.below small

pub planned_runs-requires-in-PackBits-clause-taken : goal.planned_runs-requires-in-PackBits-clause-taken
planned_runs-requires-in-PackBits-clause-taken g c =
    packed_taken g.B.BytesToBytesCodecTraits.functions c.args.codec.now c.in-PackBits.codec c.args.form.shape.now c.args.form.data_type.now c.args.form.fill_value.now c.in-PackBits.is c.requires.taken

pub returns-in-Bytes-clause-plan : goal.returns-in-Bytes-clause-plan
returns-in-Bytes-clause-plan g c =
    record { is = bytes_planned _ (λ v. v.items) c.planned_runs.result c.args.codec.now c.in-Bytes.codec c.args.form.shape.now c.args.form.data_type.now c.args.form.fill_value.now (joined_runs c.args.runs.now) c.in-Bytes.is c.planned_runs.ensures.bytes.is (c.planned_runs.ensures.plan c.requires.apart); no_fault = search rules }

pub returns-in-PackBits-clause-plan : goal.returns-in-PackBits-clause-plan
returns-in-PackBits-clause-plan g c =
    let taken = packed_taken g.B.BytesToBytesCodecTraits.functions c.args.codec.now c.in-PackBits.codec c.args.form.shape.now c.args.form.data_type.now c.args.form.fill_value.now c.in-PackBits.is c.requires.taken in
    record { is = packed_planned _ (λ v. v.items) c.planned_runs-in-PackBits.result c.args.codec.now c.in-PackBits.codec c.args.form.shape.now c.args.form.data_type.now c.args.form.fill_value.now c.args.runs.now c.in-PackBits.is c.requires.filled c.requires.apart taken c.planned_runs-in-PackBits.ensures.plan.is; no_fault = search rules }
