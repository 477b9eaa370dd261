use Rattle.std.proofs.Common.{◌≡◌, map, take}
use Rattle.serde_json.specs.Data.{number, unsigned}
use Rattle.serde_json.specs.View.{view}
use Rattle.zarrs_fill_values.proofs.shown.list_of_bytes.Given as goal

-- the bytes so far are listed
abbrev pub invariant-loop-byte : goal.invariant-loop-byte
invariant-loop-byte l = map view l.items.items ≡ map (λ byte. number (unsigned byte)) (take l.byte-index l.fill)
