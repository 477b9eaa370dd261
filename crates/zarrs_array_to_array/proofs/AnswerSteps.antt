-- What follows from an answer that was given.
use Rattle.std.specs.Prelude.{◌≡◌, Bool, Some, Result, Ok, Err, IfOk}
use Rattle.std.proofs.Common.{refl}
use Rattle.zarrs_chunk.specs.Answer.{◌>>=◌, AnswersBy}

-- what holds of each expected value holds of the one that the answer is related to
pub found_by : {E T V : Type 0} (excuse : E → Bool) (R : T → V → Type 0) (r : Result T E) (expected : Result V E) (P : V → Type 0) → AnswersBy excuse R r expected → ((v : V) → expected ≡ Ok v → P v) → IfOk r (λ x. (v : V) × R x v × P v)
found_by excuse R (Ok x) (Ok v) P h f = (v, h, f v refl)
found_by excuse R (Ok x) (Err e) P h f = absurd h
found_by excuse R (Err e) expected P h f = tt

-- the value of a step that passed
pub step_ok : {E A B : Type 0} (r : Result A E) (f : A → Result B E) (y : B) → (r >>= f) ≡ Ok y → (x : A) × (r ≡ Ok x) × (f x ≡ Ok y)
step_ok (Ok x) f y h = (x, refl, h)
step_ok (Err e) f y h = absurd (cc)

pub some_is : {X : Type 0} (x y : X) → Some x ≡ Some y → x ≡ y
some_is x y e = cc
