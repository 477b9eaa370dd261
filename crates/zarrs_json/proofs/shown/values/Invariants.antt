use Rattle.std.proofs.Common.{◌≡◌, map}
use Rattle.std.specs.List.{range_with_len}
use Rattle.serde_json.specs.View.{view}
use Rattle.zarrs_array_bytes.specs.Elements.{element_at}
use Rattle.zarrs_json.specs.Elements.{element_tree}
use Rattle.zarrs_json.proofs.shown.values.Given as goal

-- the elements so far
abbrev pub invariant-loop-place : goal.invariant-loop-place
invariant-loop-place l = map view l.values.items ≡ map (λ place. element_tree (element_at l.data_type l.elements place)) (range_with_len 0 l.place)
