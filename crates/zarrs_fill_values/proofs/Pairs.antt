-- Lists of two floats.
use Rattle.std.proofs.Common.{◌≡◌, ◌∙◌, suc, Bool, true, false, cond, ◌==◌, List, [], ◌∷◌, length, None, refl, ap, sym, eqb-true, eq-eqb}
use Rattle.std.specs.Prelude.{Err, ok_or}
use Rattle.serde_json.specs.View.{items_view}
use Rattle.serde_json.specs.declared.value.Value.{Value}
use Rattle.zarrs_fill_values.specs.FillValues.{item_count, floats_in, complex_pair}
use Rattle.zarrs_fill_values.specs.declared.element_error.ElementError.TheVariants.{InvalidFillValue}
use Rattle.zarrs_fill_values.specs.declared.element_name.FloatName.{FloatName}

item_count-view : (values : List Value) → item_count (items_view values) ≡ length values
item_count-view [] = refl
item_count-view (value ∷ values) = ap suc (item_count-view values)

-- of two items there are as many floats
pub pair_found : (name : FloatName) (values : List Value) → length values ≡ 2 → complex_pair name (items_view values) ≡ floats_in name (items_view values)
pair_found name values h = ap (λ b. cond b (floats_in name (items_view values)) None) (eq-eqb (item_count (items_view values)) 2 (item_count-view values ∙ h))

-- of any other number of items there are none
pub pair_none : (name : FloatName) (values : List Value) → (length values ≡ 2 → ⊥) → ok_or (complex_pair name (items_view values)) InvalidFillValue ≡ Err InvalidFillValue
pair_none name values h = by_test (item_count (items_view values) == 2) refl
  where
    by_test : (b : Bool) → (item_count (items_view values) == 2) ≡ b → ok_or (cond b (floats_in name (items_view values)) None) InvalidFillValue ≡ Err InvalidFillValue
    by_test true e = absurd (h (sym (item_count-view values) ∙ eqb-true (item_count (items_view values)) 2 e))
    by_test false e = refl
