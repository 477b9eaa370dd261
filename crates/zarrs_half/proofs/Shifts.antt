-- Whole numbers nearest to fractions, and how many digits a number has.
use Rattle.std.proofs.Common.{◌≡◌, ◌∙◌, ◌<◌, ◌≤◌, ℕ, zero, suc, ◌+◌, ◌-◌, ◌*◌, ◌/◌, ◌%◌, ◌^◌, refl, ap, sym, subst, arith}
use Rattle.std.proofs.lemmas.Nat.{pow-add, pow_below, pow_pos}
use native.Mathlib.Nat.{mul_assoc, mul_comm, mul-pos, lt_of_lt_of_le, lt_of_le_of_lt, mul-div_cancel, mul-mod_left, lt_of_not-le}
use Prim.Native.Nat.compare
use Prim.Native.Nat.{compare, Ordering}
use lib.Pow.{pow_mono, shl_lt}
use lib.Ieee.{size, nearest}
use lib.Ieee.Digits.{size-lt, size-le, size_reaches}
use lib.Ieee.Nearest.{closest}

compare_below : (a b : ℕ) → a < b → compare a b ≡ Ordering.lt
compare_below a zero h = absurd (omega (arith, h))
compare_below zero (suc b) h = compare.zero-suc b
compare_below (suc a) (suc b) h = compare.suc-suc a b ∙ compare_below a b (omega arith)

-- a fraction below a half
pub closest_to_none : (a b : ℕ) → a * 2 < b → closest a b ≡ 0
closest_to_none a b h =
    let whole : a / b ≡ 0 = native.Mathlib.Nat.div-eq_of_lt (omega arith) in
    let rest : a % b ≡ a = native.Mathlib.Nat.mod-eq_of_lt (omega arith) in
    ap (λ (w : ℕ). nearest w (compare (a % b * 2) b)) whole ∙ ap (λ (r : ℕ). nearest 0 (compare (r * 2) b)) rest
    ∙ ap (nearest 0) (compare_below (a * 2) b h)

-- a whole number
pub closest_to_whole : (q u : ℕ) → 0 < u → closest (q * u) u ≡ q
closest_to_whole q u h =
    ap (λ (w : ℕ). nearest w (compare (q * u % u * 2) u)) (mul-div_cancel q h)
    ∙ ap (λ (r : ℕ). nearest q (compare (r * 2) u)) (mul-mod_left q u)
    ∙ ap (nearest q) (compare_below (0 * 2) u (omega (arith, h)))

-- a number has as many digits as the least power above it says
pub size_is : (n p : ℕ) → 2 ^ p ≤ n → n < 2 ^ suc p → size n ≡ suc p
size_is n p low high =
    let most : size n ≤ suc p = size-le n (suc p) high in
    let least : p < size n = lt_of_not-le (λ (g : size n ≤ p). let few : 2 ^ size n ≤ 2 ^ p = pow_mono g in omega (arith, few, low, size-lt n)) in
    omega (arith, most, least)

-- the same of one that is doubled so many times
pub size_doubled : (n p j : ℕ) → 2 ^ p ≤ n → n < 2 ^ suc p → size (n * 2 ^ j) ≡ suc p + j
size_doubled n p j low high =
    let least : 2 ^ (p + j) ≤ n * 2 ^ j = subst (λ (k : ℕ). k ≤ n * 2 ^ j) (sym (pow-add 2 p j)) (native.Mathlib.Nat.mul-le-mul_right (2 ^ j) low) in
    size_is (n * 2 ^ j) (p + j) least (subst (λ (k : ℕ). n * 2 ^ j < 2 ^ k) (omega arith) (shl_lt (suc p) j high)) ∙ omega arith
