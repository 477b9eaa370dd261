use Rattle.zarrs_codecs.proofs.JointReads.{RangesTo}
use Rattle.zarrs_codecs.proofs.sharding.joint_reads.group_ranges.Given as goal

-- the ranges of the groups so far
abbrev pub invariant-loop-group : goal.invariant-loop-group
invariant-loop-group g l = RangesTo l.taken l.span l.numbers l.groups l.group-index l.ranges.items
