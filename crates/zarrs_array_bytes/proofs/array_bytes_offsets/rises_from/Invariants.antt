use Rattle.std.proofs.Common.{◌≡◌, ◌∷◌, drop}
use Rattle.zarrs_array_bytes.specs.Offsets.{rises}
use Rattle.zarrs_array_bytes.proofs.array_bytes_offsets.rises_from.Given as goal

abbrev pub invariant-loop-offset : goal.invariant-loop-offset
invariant-loop-offset l = rises (l.last ∷ drop l.offset-index l.rest) ≡ rises (l.first ∷ l.rest)
