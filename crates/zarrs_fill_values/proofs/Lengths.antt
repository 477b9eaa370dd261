-- Bytes of one length.
use Rattle.std.proofs.Common.{◌≡◌, ℕ, zero, suc, ◌-◌, Bool, true, false, cond, ◌==◌, List, [], ◌∷◌, Some, None, Option, length, take, drop, get_or, refl, ap, arith, eqb-true, eq-eqb, inl, inr}
use Rattle.std.specs.Prelude.{option_map, option_and_then, reverse}
use Rattle.std.proofs.lemmas.Bool.{cases_lt}
use Rattle.std.proofs.lemmas.List.{get_or-reverse, get_or_past, length-reverse}
use Rattle.zarrs_fill_values.specs.Words.{IsBytes, of_length}

-- bytes of a length are answered where they have it
pub of_length-found : (size : ℕ) (bytes : List ℕ) → length bytes ≡ size → of_length size bytes ≡ Some bytes
of_length-found size bytes h = ap (λ b. cond b (Some bytes) None) (eq-eqb (length bytes) size h)

-- what is answered of bytes of one length
pub of_length-is : {A : Type 0} (size : ℕ) (bytes : List ℕ) (f : List ℕ → Option A) (answer : A) → option_and_then f (of_length size bytes) ≡ Some answer → (length bytes ≡ size) × (f bytes ≡ Some answer)
of_length-is size bytes f answer h = by_test (length bytes == size) refl h
  where
    by_test : (b : Bool) → (length bytes == size) ≡ b → option_and_then f (cond b (Some bytes) None) ≡ Some answer → (length bytes ≡ size) × (f bytes ≡ Some answer)
    by_test true e h = (eqb-true (length bytes) size e, h)
    by_test false e h = absurd (cc)

-- the same where all of one length are answered
pub of_length-mapped : {A : Type 0} (size : ℕ) (bytes : List ℕ) (f : List ℕ → A) (answer : A) → option_map f (of_length size bytes) ≡ Some answer → (length bytes ≡ size) × (f bytes ≡ answer)
of_length-mapped size bytes f answer h = by_test (length bytes == size) refl h
  where
    by_test : (b : Bool) → (length bytes == size) ≡ b → option_map f (cond b (Some bytes) None) ≡ Some answer → (length bytes ≡ size) × (f bytes ≡ answer)
    by_test true e h = (eqb-true (length bytes) size e, cc)
    by_test false e h = absurd (cc)

pub IsBytes-reverse : (bytes : List ℕ) → IsBytes bytes → IsBytes (reverse bytes)
IsBytes-reverse bytes h i =
    elim (cases_lt i (length bytes)) [
      | inl before ↦ let e : get_or (reverse bytes) i 0 ≡ get_or bytes (length bytes - 1 - i) 0 = get_or-reverse bytes i 0 before in omega (arith, e, h (length bytes - 1 - i))
      | inr behind ↦ let e : get_or (reverse bytes) i 0 ≡ 0 = get_or_past (reverse bytes) i 0 (omega (arith, behind, length-reverse bytes)) in omega (arith, e)
    ]

pub IsBytes-take : (n : ℕ) (bytes : List ℕ) → IsBytes bytes → IsBytes (take n bytes)
IsBytes-take zero bytes h i = omega arith
IsBytes-take (suc n) [] h i = omega arith
IsBytes-take (suc n) (byte ∷ bytes) h zero = h zero
IsBytes-take (suc n) (byte ∷ bytes) h (suc i) = IsBytes-take n bytes (λ j. h (suc j)) i

pub IsBytes-drop : (n : ℕ) (bytes : List ℕ) → IsBytes bytes → IsBytes (drop n bytes)
IsBytes-drop zero bytes h i = h i
IsBytes-drop (suc n) [] h i = omega arith
IsBytes-drop (suc n) (byte ∷ bytes) h i = IsBytes-drop n bytes (λ j. h (suc j)) i
