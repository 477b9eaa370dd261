use Rattle.std.proofs.Common.{◌≡◌, ◌*◌, ◌++◌, take, drop, true}
use Rattle.zarrs_chain_meaning.specs.vlen.VlenSteps.{bytes_from}
use Rattle.zarrs_chain_meaning.proofs.vlen.vlen_offsets.put_wide.Given as goal

abbrev pub invariant-loop-index : goal.invariant-loop-index
invariant-loop-index l = l.items ≡ bytes_from true l.first (take l.index l.offsets) ++ drop (l.index * 8) l.initial.items
