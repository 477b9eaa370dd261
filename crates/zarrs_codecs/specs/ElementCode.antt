-- An element as plain parts, so that equations of chunks are propositions.
use Rattle.std.specs.Prelude.{◌≡◌, ℕ, zero, suc, Bool, true, false, List, [], cond}
use Rattle.std.proofs.Common.{refl, ap, sym, ◌∙◌}
use Rattle.zarrs_data_type.specs.Element.{Element, plain, absent, present}
use Rattle.std.proofs.Props.{props}
use mathlib.Core.HLevel.{collapsible→set}
use mathlib.Core.List.{is_set as List-set}

-- how often an element is present, and the bytes under that, where it isn't absent
abbrev ElementParts : Type 0
ElementParts = ℕ × (Bool × List ℕ)

-- an element by its parts
abbrev pub element_parts : Element → ElementParts
element_parts (plain bytes) = (0, (true, bytes))
element_parts absent = (0, (false, []))
element_parts (present element) = (suc (element_parts element).0, (element_parts element).1)

-- an element that is present so many times over
abbrev present_times : ℕ → Element → Element
present_times zero element = element
present_times (suc levels) element = present (present_times levels element)

-- the element of these parts
abbrev pub element_of_parts : ElementParts → Element
element_of_parts p = present_times p.0 (cond p.1.0 (plain p.1.1) absent)

pub element_of_parts-parts_of : (element : Element) → element_of_parts (element_parts element) ≡ element
element_of_parts-parts_of (plain bytes) = refl
element_of_parts-parts_of absent = refl
element_of_parts-parts_of (present element) = ap present (element_of_parts-parts_of element)

-- what goes into a set and comes back is a set
retract_set : {A B : Type 0} (to : A → B) (from : B → A) → ((x : A) → from (to x) ≡ x) → IsSet B → IsSet A
retract_set to from back set = collapsible→set (λ x y p. sym (back x) ∙ ap from (ap to p) ∙ back y)
    (λ x y p q. ap (λ z. sym (back x) ∙ ap from z ∙ back y) (set (to x) (to y) (ap to p) (ap to q)))

-- elements are a set: two proofs that two of them are equal are equal
pub Element-set : IsSet Element
Element-set = retract_set element_parts element_of_parts element_of_parts-parts_of (hlevel (props, List-set))

-- chunks are a set
pub Chunk-set : IsSet (List Element)
Chunk-set = List-set Element-set
