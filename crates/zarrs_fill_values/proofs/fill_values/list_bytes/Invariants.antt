use Rattle.std.proofs.Common.{◌≡◌, ◌++◌, drop}
use Rattle.std.specs.Option.{option_map}
use Rattle.serde_json.specs.View.{items_view}
use Rattle.zarrs_fill_values.specs.FillValues.{json_bytes}
use Rattle.zarrs_fill_values.proofs.fill_values.list_bytes.Given as goal

-- the bytes so far and those to come are all
abbrev pub invariant-loop-item : goal.invariant-loop-item
invariant-loop-item l = option_map (λ rest. l.bytes.items ++ rest) (json_bytes (items_view (drop l.item-index l.item-items))) ≡ json_bytes (items_view l.item-items)
