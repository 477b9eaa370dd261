use Rattle.zarrs_codecs.proofs.PartWalks.{GroupsTo}
use Rattle.zarrs_codecs.proofs.sharding.part_reads.part_groups.Given as goal

-- the groups of the parts so far
abbrev pub invariant-loop-part : goal.invariant-loop-part
invariant-loop-part l = GroupsTo l.shape l.grid l.parts l.part-index l.groups.items
