use Rattle.std.proofs.Common.{◌≡◌, List, [], ◌∷◌, None, length, refl, arith}
use Rattle.serde_json.specs.View.{items_view}
use Rattle.serde_json.specs.declared.value.Value.{Value}
use Rattle.zarrs_fill_values.specs.FillValues.{lone}
use Rattle.zarrs_fill_values.proofs.fill_values.lone.Goals as goal

not_lone : (vs : List Value) → (length vs ≡ 1 → ⊥) → None ≡ lone (items_view vs)
not_lone [] h = refl
not_lone (v ∷ []) h = absurd (h refl)
not_lone (v ∷ w ∷ vs) h = refl

pub returns-else-len-eq1 : goal.returns-else-len-eq1
returns-else-len-eq1 c =
    record { value = not_lone c.args.items.now.items (λ h. c.if-len-eq1.false (omega (arith, c.len.ensures, c.args.items.now.ok.0, h))) }
