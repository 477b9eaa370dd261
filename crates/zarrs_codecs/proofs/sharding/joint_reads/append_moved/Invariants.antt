use Rattle.std.proofs.Common.{◌≡◌, ◌++◌, take, true}
use Rattle.zarrs_codecs.specs.JointReads.{end_within}
use Rattle.zarrs_lent_handles.specs.SpanHandle.{moved_ranges}
use Rattle.zarrs_codecs.proofs.sharding.joint_reads.append_moved.Given as goal

-- the ranges so far are appended, and end inside
abbrev pub invariant-loop-range : goal.invariant-loop-range
invariant-loop-range l = record {
  appended : l.ranges.items ≡ l.fn.ranges.items ++ moved_ranges l.inside.at (take l.range-index l.own);
  inside : end_within l.inside.len (take l.range-index l.own) ≡ true;
}
