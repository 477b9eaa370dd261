use Rattle.std.proofs.Common.{◌≡◌, ◌++◌, drop}
use Rattle.serde_json.specs.View.{items_view}
use Rattle.zarrs_chunk.specs.Answer.{seen}
use Rattle.zarrs_json.specs.Json.{numbers_shown}
use Rattle.zarrs_json.proofs.trees.numbers_among.Given as goal

-- the numbers so far and those to come are all
abbrev pub invariant-loop-item : goal.invariant-loop-item
invariant-loop-item l = seen (λ ns. l.numbers.items ++ ns) (numbers_shown (items_view (drop l.item-index l.item-items))) ≡ numbers_shown (items_view l.item-items)
