-- A fill value that fits is an element.
use Rattle.std.proofs.Common.{◌≡◌, ℕ, Bool, true, false, ◌||◌, if◌then◌else◌, List, eqb-true}
use Rattle.std.proofs.lemmas.Bool.{and_parts}
use Rattle.zarrs_data_type.specs.ElementType.{ElementType, fixed, text, bytes, optional}
use Rattle.zarrs_data_type.specs.FillValue.{is_null, front_of, fill_fits}
use Rattle.zarrs_data_type.specs.Element.{Element, absent, present, IsElement, fill_element}

either_element : (type : ElementType) (null other : Bool) (element : Element) → null || other ≡ true → (other ≡ true → IsElement type element)
    → IsElement (optional type) (if null then absent else present element)
either_element type true other element h each = tt
either_element type false other element h each = each h

pub fill_element-IsElement : (type : ElementType) (fill : List ℕ) → fill_fits type fill ≡ true → IsElement type (fill_element type fill)
fill_element-IsElement (fixed width count sign) fill h = eqb-true _ _ h
fill_element-IsElement text fill h = tt
fill_element-IsElement bytes fill h = tt
fill_element-IsElement (optional type) fill h =
    either_element type (is_null fill) _ _ h (λ other. fill_element-IsElement type (front_of fill) (and_parts _ _ other).1)
