-- The number that 16 bits are, as a binary64.
use Rattle.std.proofs.Common.{◌≡◌, ◌∙◌, ◌<◌, ◌≤◌, ℕ, zero, suc, ◌+◌, ◌-◌, ◌*◌, ◌/◌, ◌%◌, ◌^◌, ◌==◌, Bool, true, false, cond, refl, ap, ap₂, sym, subst, arith, eqb-true}
use Rattle.std.specs.Prelude.{from_bits}
use Rattle.std.specs.Float.{round_to_format}
use Rattle.std.proofs.lemmas.Bool.{leb-true, leb-false, le-leb, lt-leb}
use Rattle.std.proofs.lemmas.Nat.{pow-add, pow_pos}
use native.Mathlib.Nat.{mul_assoc, mul_comm, mul_right_comm, mul-pos, mul-one, add-mul}
use lib.Dec.{T, leb}
use lib.IntN.{ℤ, pos, negsuc}
use lib.Ieee.{Float, nan, inf, fin, binary32, binary64, up, down, fits, of_bits, of_int, mul, round, unlike}
use lib.Ieee.Back.{round_whole}
use lib.Ieee.Bits.{of_bits-fits}
use lib.Ieee.Exact.{HasValue}
use lib.Ieee.Fits.{down_pos, fits_widens}
use lib.Ieee.Scale.{round_same}
use Rattle.zarrs_half.specs.HalfFloats.{units_of}
use Rattle.zarrs_half.specs.declared.half_format.HalfFormat.TheVariants.{Binary16, Bfloat16}
use Rattle.zarrs_half.proofs.ExactFloats.{round_to_format-fits}
use Rattle.zarrs_half.proofs.Patterns.{lead, doubled, pattern_value}

-- ---- binary16: its units, and the least number above 0

abbrev least : Bool → Float
least s = fin s 1 (negsuc 23)

pub least_below : from_bits binary64 0xbe70_0000_0000_0000 ≡ least true
unfolding of_bits
least_below = refl

pub least_above : from_bits binary64 0x3e70_0000_0000_0000 ≡ least false
unfolding of_bits
least_above = refl

so_many_least : (s : Bool) (x : Float) (n : ℕ) → HasValue x false n 1 → mul binary64 x (least s) ≡ round binary64 s n (2 ^ 24)
unfolding mul
so_many_least s nan n v = absurd v
so_many_least s (inf t) n v = absurd v
so_many_least s (fin t m e) n v =
    ap (λ (t : Bool). round binary64 (unlike t s) (m * up e * (1 * 1)) (down e * 2 ^ 24)) v.0
    ∙ ap (λ (t : Bool). round binary64 t (m * up e * (1 * 1)) (down e * 2 ^ 24)) (signs s)
    ∙ round_same binary64 s (m * up e * (1 * 1)) (down e * 2 ^ 24) n (2 ^ 24) (mul-pos (down_pos e) (pow_pos 24)) (pow_pos 24) same
  where
    signs : (s : Bool) → unlike false s ≡ s
    signs true = refl
    signs false = refl

    same : m * up e * (1 * 1) * 2 ^ 24 ≡ n * (down e * 2 ^ 24)
    same = ap (λ (k : ℕ). k * 2 ^ 24) v.1 ∙ mul_assoc n (down e) (2 ^ 24)

pub units_are : (s : Bool) (n : ℕ) → n ≤ 2 ^ 53 → mul binary64 (of_int binary64 (pos n)) (least s) ≡ round binary64 s n (2 ^ 24)
unfolding of_int round
units_are s n few = so_many_least s (of_int binary64 (pos n)) n (round_whole binary64 false n few)

-- ---- bfloat16: a binary32

-- a float that a binary64 has room for is its own nearest one
is_rounded : (x : Float) (s : Bool) (a c : ℕ) → 0 < c → T (fits binary64 x) → HasValue x s a c → x ≡ round binary64 s a c
unfolding round_to_format
is_rounded nan s a c positive fit v = absurd v
is_rounded (inf t) s a c positive fit v = absurd v
is_rounded (fin t m e) s a c positive fit v =
    sym (round_to_format-fits binary64 (fin t m e) fit)
    ∙ ap (λ (t : Bool). round binary64 t (m * up e) (down e)) v.0
    ∙ round_same binary64 s (m * up e) (down e) a c (down_pos e) positive v.1

-- a binary32 whose lower half is blank has the units of its upper half
units_above : (bits x : ℕ) → bits % 0x8000 / 128 ≡ x
    → lead binary32 x (bits % 128 * 2 ^ 16) * 2 ^ doubled x ≡ units_of Bfloat16 (bits % 0x8000) * 2 ^ 16
units_above bits zero is =
    let same : bits % 128 ≡ bits % 0x8000 = omega (arith, is) in
    mul-one (bits % 128 * 2 ^ 16)
    ∙ ap (λ (n : ℕ). n * 2 ^ 16) same
    ∙ ap (λ (b : Bool). cond b (bits % 0x8000) ((128 + bits % 0x8000 % 128) * 2 ^ (bits % 0x8000 / 128 - 1)) * 2 ^ 16) (sym (ap (λ (n : ℕ). n == 0) is))
units_above bits (suc x) is =
    let same : bits % 128 ≡ bits % 0x8000 % 128 = omega arith in
    let steps : x ≡ bits % 0x8000 / 128 - 1 = omega (arith, is) in
    let whole : 2 ^ 23 + bits % 128 * 2 ^ 16 ≡ (128 + bits % 128) * 2 ^ 16 = omega arith in
    ap (λ (n : ℕ). n * 2 ^ x) whole
    ∙ mul_right_comm (128 + bits % 128) (2 ^ 16) (2 ^ x)
    ∙ ap₂ (λ (r p : ℕ). (128 + r) * 2 ^ p * 2 ^ 16) same steps
    ∙ ap (λ (b : Bool). cond b (bits % 0x8000) ((128 + bits % 0x8000 % 128) * 2 ^ (bits % 0x8000 / 128 - 1)) * 2 ^ 16) (sym (ap (λ (n : ℕ). n == 0) is ∙ some x))
  where
    some : (n : ℕ) → (suc n == 0) ≡ false
    some n = by_test (suc n == 0) refl
      where
        by_test : (t : Bool) → (suc n == 0) ≡ t → t ≡ false
        by_test true e = absurd (omega (arith, eqb-true (suc n) 0 e))
        by_test false e = refl

rescaled : (x : Float) (s : Bool) (n : ℕ) → HasValue x s (n * 2 ^ 16) (2 ^ 149) → HasValue x s n (2 ^ 133)
rescaled nan s n v = v
rescaled (inf t) s n v = v
rescaled (fin t m e) s n v = (
  v.0,
  native.Mathlib.Nat.eq_of_mul-eq-mul_right (2 ^ 16) (pow_pos 16) (m * up e * 2 ^ 133) (n * down e)
      (mul_assoc (m * up e) (2 ^ 133) (2 ^ 16) ∙ v.1 ∙ mul_right_comm n (2 ^ 16) (down e)),
)

pub upper_half : (bits : ℕ) → bits % 0x8000 < 0x7f80
    → from_bits binary32 (bits * 2 ^ 16) ≡ round binary64 (leb 0x8000 bits) (units_of Bfloat16 (bits % 0x8000)) (2 ^ 133)
upper_half bits below =
    let b = bits * 2 ^ 16 in
    let x = bits % 0x8000 / 128 in
    let exponent : b % 2 ^ 31 / 2 ^ 23 ≡ x = omega arith in
    let rest : b % 2 ^ 23 ≡ bits % 128 * 2 ^ 16 = omega arith in
    let value = pattern_value binary32 b (omega (arith, below)) in
    let moved : HasValue (of_bits binary32 b) (leb (2 ^ 31) b) (lead binary32 x (bits % 128 * 2 ^ 16) * 2 ^ doubled x) (2 ^ 149) =
    subst (λ (r : ℕ). HasValue (of_bits binary32 b) (leb (2 ^ 31) b) (lead binary32 x r * 2 ^ doubled x) (2 ^ 149)) rest
    (subst (λ (k : ℕ). HasValue (of_bits binary32 b) (leb (2 ^ 31) b) (lead binary32 k (b % 2 ^ 23) * 2 ^ doubled k) (2 ^ 149)) exponent value) in
    let units = rescaled (of_bits binary32 b) (leb (2 ^ 31) b) (units_of Bfloat16 (bits % 0x8000))
    (subst (λ (n : ℕ). HasValue (of_bits binary32 b) (leb (2 ^ 31) b) n (2 ^ 149)) (units_above bits x refl) moved) in
    is_rounded (of_bits binary32 b) (leb (2 ^ 31) b) (units_of Bfloat16 (bits % 0x8000)) (2 ^ 133) (pow_pos 133)
    (fits_widens (of_bits binary32 b) (of_bits-fits binary32 b)) units
    ∙ ap (λ (s : Bool). round binary64 s (units_of Bfloat16 (bits % 0x8000)) (2 ^ 133)) (signs bits)
  where
    signs : (bits : ℕ) → leb (2 ^ 31) (bits * 2 ^ 16) ≡ leb 0x8000 bits
    signs bits = by_test (leb 0x8000 bits) refl
      where
        by_test : (t : Bool) → leb 0x8000 bits ≡ t → leb (2 ^ 31) (bits * 2 ^ 16) ≡ t
        by_test true e = le-leb (2 ^ 31) (bits * 2 ^ 16) (omega (arith, leb-true 0x8000 bits e))
        by_test false e = lt-leb (2 ^ 31) (bits * 2 ^ 16) (omega (arith, leb-false 0x8000 bits e))
