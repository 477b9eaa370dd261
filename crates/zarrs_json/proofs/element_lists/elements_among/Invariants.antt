use Rattle.std.proofs.Common.{◌≡◌, ◌++◌, drop, map}
use Rattle.serde_json.specs.View.{items_view}
use Rattle.zarrs_chunk.specs.Answer.{seen}
use Rattle.zarrs_json.specs.Element.{element_seen}
use Rattle.zarrs_json.specs.Elements.{elements_shown}
use Rattle.zarrs_json.proofs.element_lists.elements_among.Given as goal

-- the elements so far and those to come are all
abbrev pub invariant-loop-item : goal.invariant-loop-item
invariant-loop-item l = seen (λ chunk. map element_seen l.elements.items ++ chunk) (elements_shown l.data_type (items_view (drop l.item-index l.item-items))) ≡ elements_shown l.data_type (items_view l.item-items)
