use Rattle.std.proofs.Common.{◌≡◌, true, take}
use Rattle.std.specs.List.{list_all, range_with_len}
use Rattle.zarrs_plain_vlen.specs.VlenRead.{element_is_there}
use Rattle.zarrs_plain_vlen.proofs.elements.are_there.Given as goal

abbrev pub invariant-loop-first : goal.invariant-loop-first
invariant-loop-first l = list_all (λ run. list_all (element_is_there l.offsets l.size) (range_with_len run.0 run.1)) (take l.first-index l.runs) ≡ true
