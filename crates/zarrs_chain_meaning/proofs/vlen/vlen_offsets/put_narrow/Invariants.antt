use Rattle.std.proofs.Common.{◌≡◌, ◌*◌, ◌++◌, take, drop, false}
use Rattle.zarrs_chain_meaning.specs.vlen.VlenSteps.{bytes_from}
use Rattle.zarrs_chain_meaning.proofs.vlen.vlen_offsets.put_narrow.Given as goal

abbrev pub invariant-loop-index : goal.invariant-loop-index
invariant-loop-index l = l.items ≡ bytes_from false l.first (take l.index l.offsets) ++ drop (l.index * 4) l.initial.items
