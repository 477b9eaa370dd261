use Rattle.std.proofs.Common.{◌≡◌, ℕ}
use Rattle.serde_json.specs.View.{view}
use Rattle.zarrs_array_bytes.specs.Elements.{element_at}
use Rattle.zarrs_json.specs.Elements.{element_tree}
use Rattle.zarrs_json.proofs.ShownLemmas.{has_element, shown_more}
use Rattle.zarrs_json.proofs.shown.values.Goals as goal

pub value_at-requires : goal.value_at-requires
value_at-requires c =
    record { known = has_element c.args.data_type.now c.args.elements.now c.args.count c.loop-place.place c.requires.known c.loop-place-test.true }

pub loop-place-preserved : goal.loop-place-preserved
loop-place-preserved c =
    let shows : view c.in_ok-value.value ≡ element_tree (element_at c.args.data_type.now c.args.elements.now c.loop-place.place) = cc (c.in_ok-value.ensures.answer) in
    shown_more c.loop-place.values.items c.push.new.self.items c.in_ok-value.value (λ (place : ℕ). element_tree (element_at c.args.data_type.now c.args.elements.now place)) c.loop-place.place c.loop-place.invariant c.in_ok-push.ensures.items shows
