use Rattle.std.proofs.Common.{◌≡◌, ◌++◌, drop}
use Rattle.serde_json.specs.View.{items_view}
use Rattle.zarrs_chunk.specs.Answer.{seen}
use Rattle.zarrs_json.specs.Indexer.{ranges_in}
use Rattle.zarrs_json.proofs.indexers.ranges_among.Given as goal

-- the ranges so far and those to come are all
abbrev pub invariant-loop-item : goal.invariant-loop-item
invariant-loop-item l = seen (λ ranges. l.ranges.items ++ ranges) (ranges_in (items_view (drop l.item-index l.item-items))) ≡ ranges_in (items_view l.item-items)
