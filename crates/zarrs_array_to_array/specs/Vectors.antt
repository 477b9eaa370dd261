-- What a call answers that answers Ok: a vector, by its items.
use Rattle.std.specs.Prelude.{◌≡◌, List, Vec, Option, IfSome, Result, IfOk}
use Rattle.std.specs.declared.alloc.Global.{Global}

-- the answered vector has these items
abbrev pub ItemsAre : {E A : Type 0} → List A → Result (Vec A Global) E → Type 0
ItemsAre items result = IfOk result (λ v. v.items ≡ items)

-- where a vector was found, this holds of its items
abbrev pub IfFound : {E A : Type 0} → (List A → Type 0) → Result (Option (Vec A Global)) E → Type 0
IfFound P result = IfOk result (λ found. IfSome found (λ v. P v.items))
