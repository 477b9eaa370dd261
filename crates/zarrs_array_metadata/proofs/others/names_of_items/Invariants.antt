use Rattle.std.proofs.Common.{◌≡◌, ◌++◌, drop, map}
use Rattle.std.specs.Option.{option_map}
use Rattle.serde_json.specs.View.{items_view}
use Rattle.zarrs_array_metadata.specs.OtherKeys.{name_seen, names_among}
use Rattle.zarrs_array_metadata.proofs.others.names_of_items.Given as goal

-- the names so far and those to come are all
abbrev pub invariant-loop-item : goal.invariant-loop-item
invariant-loop-item l =
    option_map (λ others. map name_seen l.names.items ++ others) (names_among (items_view (drop l.item-index l.item-items))) ≡ names_among (items_view l.item-items)
