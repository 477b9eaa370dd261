use Rattle.std.proofs.Common.{◌≡◌, ◌++◌, drop, map}
use Rattle.serde_json.specs.View.{items_view}
use Rattle.zarrs_chunk.specs.Answer.{seen}
use Rattle.zarrs_json.specs.Indexer.{tuples_shown}
use Rattle.zarrs_json.proofs.indexers.tuples_among.Given as goal

-- the tuples so far and those to come are all
abbrev pub invariant-loop-item : goal.invariant-loop-item
invariant-loop-item l = seen (λ tuples. map (λ tuple. tuple.items) l.tuples.items ++ tuples) (tuples_shown (items_view (drop l.item-index l.item-items))) ≡ tuples_shown (items_view l.item-items)
