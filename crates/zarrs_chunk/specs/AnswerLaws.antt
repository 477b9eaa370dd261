-- Laws of what calls return, for the proofs of their callers.
use Rattle.std.specs.Prelude.{◌≡◌, Bool, true, false, Result, Ok, Err, IsOk, IfOk}
use Rattle.std.proofs.Common.{refl, sym}
use Rattle.std.proofs.lemmas.Bool.{false≢true}
use Rattle.zarrs_chunk.specs.Answer.{demand, seen, Answers}

-- what holds of each expected value holds of the value that was returned
pub found_from : {E T V : Type 0} (excuse : E → Bool) (view : T → V) (r : Result T E) (expected : Result V E) (P : V → Type 0) → Answers excuse view r expected → ((v : V) → expected ≡ Ok v → P v) → IfOk r (λ x. P (view x))
found_from excuse view (Ok x) expected P h f = f (view x) h
found_from excuse view (Err e) expected P h f = tt

-- a call that is Ok returns just what is expected
pub seen_from : {E T V : Type 0} (excuse : E → Bool) (view : T → V) (r : Result T E) (expected : Result V E) → IsOk r → Answers excuse view r expected → seen view r ≡ expected
seen_from excuse view (Ok x) expected ok h = sym h
seen_from excuse view (Err e) expected ok h = absurd (false≢true ok)

-- a test that passed
pub demand_ok : {E : Type 0} (passed : Bool) (cause : E) → demand passed cause ≡ Ok tt → passed ≡ true
demand_ok true cause h = refl
demand_ok false cause h = absurd (cc)
