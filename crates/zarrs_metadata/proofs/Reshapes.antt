-- What the sizes of a reshape are.
use Rattle.std.proofs.Common.{◌≡◌, ◌==◌, not, nat_le, ℕ, zero, suc, ◌<◌, ◌≤◌, true, List, [], ◌∷◌, Some, arith, refl, subst}
use Rattle.std.specs.Prelude.{slice_get}
use Rattle.std.proofs.lemmas.Bool.{and_parts, and_from, leb-true, le-leb}
use Rattle.std.proofs.lemmas.Bool.Decides.{nat_tests}
use Rattle.zarrs_metadata.specs.Dims.{Dim, size, auto, input_dims, is_nonzero, has_no_zero, autos, is_reshape, IsReshape}

pub nonzero_positive : (n : ℕ) → not (n == 0) ≡ true → 0 < n
nonzero_positive n h = grind (arith, nat_tests)

positive_nonzero : (n : ℕ) → 0 < n → not (n == 0) ≡ true
positive_nonzero n h = grind (arith, nat_tests)

-- ---- no number is zero

positive_at : (dims : List Dim) → has_no_zero dims ≡ true → (i n : ℕ) → slice_get dims i ≡ Some (size n) → 0 < n
positive_at [] h i n = λ e. absurd (cc)
positive_at (dim ∷ dims) h i n =
    let parts = and_parts (is_nonzero dim) (has_no_zero dims) h in
    elim i as (λ k. slice_get (dim ∷ dims) k ≡ Some (size n) → 0 < n) [
      | zero ↦ (λ e. let same : dim ≡ size n = cc in nonzero_positive n (subst (λ d. is_nonzero d ≡ true) same parts.0))
      | suc k ↦ positive_at dims parts.1 k n
    ]

no_zero_from : (dims : List Dim) → ((i n : ℕ) → slice_get dims i ≡ Some (size n) → 0 < n) → has_no_zero dims ≡ true
no_zero_from [] h = refl
no_zero_from (size n ∷ dims) h = and_from _ _ (positive_nonzero n (h 0 n refl)) (no_zero_from dims (λ i m e. h (suc i) m e))
no_zero_from (auto ∷ dims) h = no_zero_from dims (λ i m e. h (suc i) m e)
no_zero_from (input_dims axes ∷ dims) h = no_zero_from dims (λ i m e. h (suc i) m e)

-- ---- what the others leave

no_auto_at : (dims : List Dim) → autos dims ≡ 0 → (i : ℕ) → slice_get dims i ≡ Some auto → ⊥
no_auto_at [] e i = λ h. absurd (cc)
no_auto_at (size n ∷ dims) e i =
    elim i as (λ k. slice_get (size n ∷ dims) k ≡ Some auto → ⊥) [ zero ↦ (λ h. absurd (cc)) | suc k ↦ no_auto_at dims e k ]
no_auto_at (auto ∷ dims) e i = absurd (omega arith)
no_auto_at (input_dims axes ∷ dims) e i =
    elim i as (λ k. slice_get (input_dims axes ∷ dims) k ≡ Some auto → ⊥) [ zero ↦ (λ h. absurd (cc)) | suc k ↦ no_auto_at dims e k ]

no_autos_from : (dims : List Dim) → ((i : ℕ) → slice_get dims i ≡ Some auto → ⊥) → autos dims ≡ 0
no_autos_from [] h = refl
no_autos_from (size n ∷ dims) h = no_autos_from dims (λ i. h (suc i))
no_autos_from (auto ∷ dims) h = absurd (h 0 refl)
no_autos_from (input_dims axes ∷ dims) h = no_autos_from dims (λ i. h (suc i))

one_auto_at : (dims : List Dim) → autos dims ≤ 1 → (i j : ℕ) → slice_get dims i ≡ Some auto → slice_get dims j ≡ Some auto → i ≡ j
one_auto_at [] l i j p q = absurd (cc)
one_auto_at (size n ∷ dims) l zero j p q = absurd (cc)
one_auto_at (size n ∷ dims) l (suc i) zero p q = absurd (cc)
one_auto_at (size n ∷ dims) l (suc i) (suc j) p q = let same = one_auto_at dims l i j p q in omega arith
one_auto_at (input_dims axes ∷ dims) l zero j p q = absurd (cc)
one_auto_at (input_dims axes ∷ dims) l (suc i) zero p q = absurd (cc)
one_auto_at (input_dims axes ∷ dims) l (suc i) (suc j) p q = let same = one_auto_at dims l i j p q in omega arith
one_auto_at (auto ∷ dims) l zero zero p q = refl
one_auto_at (auto ∷ dims) l zero (suc j) p q = absurd (no_auto_at dims (omega arith) j q)
one_auto_at (auto ∷ dims) l (suc i) j p q = absurd (no_auto_at dims (omega arith) i p)

few_autos_from : (dims : List Dim) → ((i j : ℕ) → slice_get dims i ≡ Some auto → slice_get dims j ≡ Some auto → i ≡ j) → autos dims ≤ 1
few_autos_from [] h = omega arith
few_autos_from (size n ∷ dims) h = few_autos_from dims (λ i j p q. let same = h (suc i) (suc j) p q in omega arith)
few_autos_from (input_dims axes ∷ dims) h = few_autos_from dims (λ i j p q. let same = h (suc i) (suc j) p q in omega arith)
few_autos_from (auto ∷ dims) h =
    let none : autos dims ≡ 0 = no_autos_from dims (λ i q. let same = h 0 (suc i) refl q in absurd (omega arith)) in
    omega arith

-- ---- the test, size by size

pub reshape_parts : (dims : List Dim) → is_reshape dims ≡ true → IsReshape dims
reshape_parts dims h =
    let parts = and_parts (nat_le (autos dims) 1) (has_no_zero dims) h in
    record { positive = positive_at dims parts.1; one_auto = one_auto_at dims (leb-true (autos dims) 1 parts.0) }

pub reshape_from : (dims : List Dim) → IsReshape dims → is_reshape dims ≡ true
reshape_from dims r = and_from _ _ (le-leb (autos dims) 1 (few_autos_from dims r.one_auto)) (no_zero_from dims r.positive)
