-- Products of sizes, and sizes of zero.
use Rattle.std.proofs.Common.{◌≡◌, ℕ, zero, suc, ◌+◌, ◌*◌, ◌<◌, ◌≤◌, ◌==◌, ◌||◌, Bool, true, false, List, [], ◌∷◌, length, get_or, drop, arith, ap, ◌∙◌, refl}
use Rattle.std.specs.List.{All, list_any}
use Rattle.std.proofs.Math.Nat.{mul-le-mul_left, mul_assoc}
use Rattle.std.proofs.lemmas.Bool.Decides.{nat_tests}
use Rattle.std.proofs.lemmas.List.{drop_more, get_or-drop, length-drop}
use Rattle.zarrs_chunk.specs.ChunkShape.{product}
use Rattle.std.proofs.lemmas.Bool.{or_parts}

-- one size, by the test for zero
pub is_zero : (size : ℕ) → (size == 0) ≡ true → size ≡ 0
is_zero size h = grind (arith, nat_tests)

pub is_positive : (size : ℕ) → (size == 0) ≡ false → 0 < size
is_positive size h = grind (arith, nat_tests)

-- where no size is zero, each is positive
pub All-positive : (sizes : List ℕ) → list_any (λ size. size == 0) sizes ≡ false → All (λ size. 0 < size) sizes
All-positive [] h = λ k d l. absurd (omega arith)
All-positive (size ∷ sizes) h = λ k d.
    let p = or_parts (size == 0) (list_any (λ size. size == 0) sizes) h in
    elim k as (λ j. j < length (size ∷ sizes) → 0 < get_or (size ∷ sizes) j d) [
      | zero ↦ (λ l. is_positive size p.0)
      | suc j ↦ (λ l. All-positive sizes p.1 j d (omega arith))
    ]

times_zero : (size : ℕ) (b : Bool) (n : ℕ) → (b ≡ true → n ≡ 0) → ((size == 0) || b) ≡ true → size * n ≡ 0
times_zero size true n h e = ap (λ m. size * m) (h refl) ∙ omega arith
times_zero size false n h e = ap (λ m. m * n) (is_zero size (or_false (size == 0) e)) ∙ omega arith
  where
    or_false : (a : Bool) → (a || false) ≡ true → a ≡ true
    or_false true e = refl
    or_false false e = e

-- a product with a zero among its factors is 0
pub product_zero : (sizes : List ℕ) → list_any (λ size. size == 0) sizes ≡ true → product sizes ≡ 0
product_zero [] h = absurd (cc)
product_zero (size ∷ sizes) h =
    times_zero size (list_any (λ size. size == 0) sizes) (product sizes) (product_zero sizes) h

-- a product of positive sizes is positive
pub product_positive : (sizes : List ℕ) → All (λ size. 0 < size) sizes → 0 < product sizes
product_positive [] h = omega arith
product_positive (size ∷ sizes) h =
    let p = product_positive sizes (λ k d l. h (suc k) d (omega arith)) in
    let q : 0 < size = h 0 0 (omega arith) in
    omega (arith, mul-le-mul_left size p)

pub product_positive-drop : (sizes : List ℕ) (i : ℕ) → All (λ size. 0 < size) sizes → 0 < product (drop i sizes)
product_positive-drop sizes i h =
    product_positive (drop i sizes) (λ k d l. rw get_or-drop (h (i + k) d (omega (arith, length-drop i sizes))))

-- one more factor counted
pub product_more : (sizes : List ℕ) (i count size : ℕ) → i < length sizes → size ≡ get_or sizes i 0 → count * size * product (drop (i + 1) sizes) ≡ count * product (drop i sizes)
product_more sizes i count size h e =
    rw (drop_more sizes i 0 h, ← e) (mul_assoc count size (product (drop (i + 1) sizes)))

-- what is counted so far is no more than the whole product
pub product_more-le : (sizes : List ℕ) (i count size : ℕ) → i < length sizes → size ≡ get_or sizes i 0 → All (λ size. 0 < size) sizes → count * product (drop i sizes) ≡ product sizes → count * size ≤ product sizes
product_more-le sizes i count size h e positive is =
    let p = product_more sizes i count size h e in
    let q = product_positive-drop sizes (i + 1) positive in
    omega (arith, mul-le-mul_left (count * size) q)

-- the sizes from an axis on, as that axis times the rest
pub product_drop : (sizes : List ℕ) (axis : ℕ) → axis < length sizes → product (drop axis sizes) ≡ get_or sizes axis 0 * product (drop (axis + 1) sizes)
product_drop sizes axis h = ap product (drop_more sizes axis 0 h)
