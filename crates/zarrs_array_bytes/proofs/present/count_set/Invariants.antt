use Rattle.std.proofs.Common.{◌≡◌, ◌*◌, length, take}
use Rattle.zarrs_array_bytes.proofs.PresentLemmas.{marked}
use Rattle.zarrs_array_bytes.proofs.present.count_set.Given as goal

abbrev pub invariant-loop-block : goal.invariant-loop-block
invariant-loop-block l = l.count ≡ length (marked (take (l.block * 128) l.mask))
