use Rattle.zarrs_chunk.specs.Runs.{joined_runs}
use Rattle.zarrs_codecs.proofs.JointReads.{is_whole, rested_wholly}
use Rattle.zarrs_codecs.proofs.sharding.joint_reads.chunk_ranges.Goals as goal

pub returns-then-is_read_whole-clause-rested : goal.returns-then-is_read_whole-clause-rested
returns-then-is_read_whole-clause-rested g c =
    rested_wholly c.args.taken.now c.chain_is_sound.ensures.mappings.mappings (is_whole _ c.if-is_read_whole.ensures.value) c.args.len (joined_runs c.args.runs.now) c.in_ok-whole_range.field-0.items c.in_ok-whole_range.ensures.value
