use Rattle.std.proofs.Common.{◌≡◌, ◌++◌, drop}
use Rattle.std.specs.Option.{option_map}
use Rattle.serde_json.specs.View.{items_view}
use Rattle.zarrs_array_metadata.specs.ChunksRead.{sizes_among}
use Rattle.zarrs_array_metadata.proofs.chunks.sizes_of_items.Given as goal

-- the sizes so far and those to come are all
abbrev pub invariant-loop-item : goal.invariant-loop-item
invariant-loop-item l = option_map (λ others. l.sizes.items ++ others) (sizes_among (items_view (drop l.item-index l.item-items))) ≡ sizes_among (items_view l.item-items)
