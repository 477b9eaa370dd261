use Rattle.zarrs_chunk.specs.ChunkShape.{product}
use Rattle.zarrs_bytes.specs.PartialRead.{place_size}
use Rattle.zarrs_bytes.proofs.Ranges.{runs_fit}
use Rattle.zarrs_bytes.proofs.Taken.{taken_fixed, taken_fill, taken_small}
use Rattle.zarrs_codecs.proofs.JointReads.{refused_by}
use Rattle.zarrs_codecs.proofs.PartialCalls.{bytes_taken, packed_taken}
use Rattle.zarrs_codecs.proofs.sharding.joint_reads.place_ranges.Goals as goal

pub planned_runs-requires-clause-fixed : goal.planned_runs-requires-clause-fixed
planned_runs-requires-clause-fixed g c =
    taken_fixed c.in-Bytes.codec c.args.form.shape.now c.args.form.data_type.now c.args.form.fill_value.now (bytes_taken g.B.BytesToBytesCodecTraits.functions c.args.codec.now c.in-Bytes.codec c.args.form.shape.now c.args.form.data_type.now c.args.form.fill_value.now c.in-Bytes.is c.requires.taken)

pub planned_runs-requires-clause-filling : goal.planned_runs-requires-clause-filling
planned_runs-requires-clause-filling g c =
    taken_fill c.in-Bytes.codec c.args.form.shape.now c.args.form.data_type.now c.args.form.fill_value.now (bytes_taken g.B.BytesToBytesCodecTraits.functions c.args.codec.now c.in-Bytes.codec c.args.form.shape.now c.args.form.data_type.now c.args.form.fill_value.now c.in-Bytes.is c.requires.taken)

pub planned_runs-requires-clause-ends : goal.planned_runs-requires-clause-ends
planned_runs-requires-clause-ends g c =
    let small = taken_small c.in-Bytes.codec c.args.form.shape.now c.args.form.data_type.now c.args.form.fill_value.now (bytes_taken g.B.BytesToBytesCodecTraits.functions c.args.codec.now c.in-Bytes.codec c.args.form.shape.now c.args.form.data_type.now c.args.form.fill_value.now c.in-Bytes.is c.requires.taken) in
    runs_fit c.args.runs.now (product c.args.form.shape.now) (place_size c.args.form.data_type.now) c.requires.below small

pub planned_runs-requires-in-PackBits-clause-taken : goal.planned_runs-requires-in-PackBits-clause-taken
planned_runs-requires-in-PackBits-clause-taken g c =
    packed_taken g.B.BytesToBytesCodecTraits.functions c.args.codec.now c.in-PackBits.codec c.args.form.shape.now c.args.form.data_type.now c.args.form.fill_value.now c.in-PackBits.is c.requires.taken

pub returns-in-PackBits-clause-refused : goal.returns-in-PackBits-clause-refused
returns-in-PackBits-clause-refused g c =
    refused_by _ c.planned_runs-in-PackBits.result _ c.planned_runs-in-PackBits.ensures.plan.is
    (packed_taken g.B.BytesToBytesCodecTraits.functions c.args.codec.now c.in-PackBits.codec c.args.form.shape.now c.args.form.data_type.now c.args.form.fill_value.now c.in-PackBits.is c.requires.taken)
