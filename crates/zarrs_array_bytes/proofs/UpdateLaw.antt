-- What an update leaves at a place: the data written last there, or the old element.
use Rattle.std.proofs.Common.{◌≡◌, ◌≢◌, ℕ, zero, suc, ◌<◌, List, [], ◌∷◌, length, set, get_or, refl, sym, ◌∙◌, arith, get_or-set_other, get_or-set_same}
use Rattle.std.proofs.lemmas.List.{length-set}
use Rattle.zarrs_array_bytes.specs.Update.{update}

pub untouched : {A : Type 0} (c d : List A) (ps : List ℕ) (q : ℕ) (e : A) → ((k : ℕ) → k < length ps → get_or ps k 0 ≢ q) → get_or (update c ps d) q e ≡ get_or c q e
untouched c d [] q e other = refl
untouched c [] (p ∷ ps) q e other = refl
untouched c (x ∷ xs) (p ∷ ps) q e other =
    untouched (set c p x) xs ps q e (λ k l. other (suc k) (omega arith)) ∙ get_or-set_other c p q x e (λ h. other 0 (omega arith) (sym h))

pub written : {A : Type 0} (c d : List A) (ps : List ℕ) (q : ℕ) (e : A) (k : ℕ) → q < length c → length ps ≡ length d → k < length ps → get_or ps k 0 ≡ q
    → ((j : ℕ) → k < j → j < length ps → get_or ps j 0 ≢ q) → get_or (update c ps d) q e ≡ get_or d k e
written c d [] q e k l n i is last = absurd (omega arith)
written c [] (p ∷ ps) q e k l n i is last = absurd (omega arith)
written c (x ∷ xs) (p ∷ ps) q e zero l n i is last =
    untouched (set c p x) xs ps q e (λ k h. last (suc k) (omega arith) (omega arith)) ∙ (rw is (get_or-set_same c q x e l))
written c (x ∷ xs) (p ∷ ps) q e (suc k) l n i is last =
    written (set c p x) xs ps q e k (omega (arith, length-set c p x)) (omega arith) (omega arith) is (λ j h m. last (suc j) (omega arith) (omega arith))
