use Rattle.std.proofs.Common.{◌≡◌, ◌*◌, nat_eq, drop}
use Rattle.std.specs.Cmp.Lexicographic.{pointwise}
use Rattle.zarrs_shard_bytes.proofs.same_bytes.is_same.Given as goal

abbrev pub invariant-loop-index : goal.invariant-loop-index
invariant-loop-index l = pointwise nat_eq l.one l.other ≡ pointwise nat_eq (drop (l.index * 64) l.one) (drop (l.index * 64) l.other)
