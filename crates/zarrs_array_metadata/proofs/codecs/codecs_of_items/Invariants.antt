use Rattle.std.proofs.Common.{◌≡◌, ◌++◌, drop, map}
use Rattle.serde_json.specs.View.{items_view}
use Rattle.zarrs_chunk.specs.Answer.{seen}
use Rattle.zarrs_metadata.specs.MetadataV3.{metadata_seen}
use Rattle.zarrs_array_metadata.specs.Extensions.{codecs_among}
use Rattle.zarrs_array_metadata.proofs.codecs.codecs_of_items.Given as goal

-- the codecs so far and those to come are all
abbrev pub invariant-loop-item : goal.invariant-loop-item
invariant-loop-item l =
    seen (λ others. map metadata_seen l.codecs.items ++ others) (codecs_among (items_view (drop l.item-index l.item-items))) ≡ codecs_among (items_view l.item-items)
