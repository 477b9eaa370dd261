use Rattle.std.proofs.Common.{◌≡◌, drop}
use Rattle.zarrs_c_calls.specs.Edits.{all_are_taken}
use Rattle.zarrs_c_calls.proofs.edits.take_all.Given as goal

-- the edits that are left take just what is left
abbrev pub invariant-loop-size : goal.invariant-loop-size
invariant-loop-size l = all_are_taken (drop l.size-index l.sizes) l.numbers_left l.bytes_left ≡ all_are_taken l.sizes l.numbers l.bytes
