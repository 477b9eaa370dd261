use Rattle.std.proofs.Common.{◌≡◌, ◌*◌, take, true}
use Rattle.zarrs_chain_meaning.specs.vlen.VlenSteps.{bytes_from}
use Rattle.zarrs_chain_meaning.proofs.vlen.vlen_offsets.wide_items.Given as goal

abbrev pub invariant-loop-index : goal.invariant-loop-index
invariant-loop-index l = l.items.items ≡ bytes_from true l.first (take (l.index * 32) l.offsets)
