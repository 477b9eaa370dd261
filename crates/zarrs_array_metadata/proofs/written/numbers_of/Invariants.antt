use Rattle.std.proofs.Common.{◌≡◌, map, take}
use Rattle.serde_json.specs.Data.{number, unsigned}
use Rattle.serde_json.specs.View.{view}
use Rattle.zarrs_array_metadata.proofs.written.numbers_of.Given as goal

-- the numbers so far are listed
abbrev pub invariant-loop-number : goal.invariant-loop-number
invariant-loop-number l = map view l.items.items ≡ map (λ n. number (unsigned n)) (take l.number-index l.numbers)
