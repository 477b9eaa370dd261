-- The float that a pattern of a binary32 or a binary64 says.
use Rattle.std.proofs.Common.{◌≡◌, ◌∙◌, ◌<◌, ℕ, zero, suc, ◌+◌, ◌-◌, ◌*◌, ◌/◌, ◌%◌, ◌^◌, Bool, true, false, cond, refl, ap, sym, subst, arith, eqb-true}
use Rattle.std.proofs.lemmas.Bool.{eqb-false}
use lib.IntN.{ℤ}
use lib.Dec.{T, leb, eqb}
use lib.Ieee.{Float, Format, nan, inf, fin, binary32, binary64, prec, low, hid, ones, top, up, down, odd, fits, is_nan, of_bits, of_fields, to_bits}
use lib.Ieee.Bits.{of_bits-to_bits}
use lib.Ieee.Exact.{HasValue, odd_sign}

-- the significand of an exponent's bits and a fraction's
abbrev pub lead : Format → ℕ → ℕ → ℕ
lead f zero rest = rest
lead f (suc x) rest = hid f + rest

-- how often it is doubled
abbrev pub doubled : ℕ → ℕ
doubled zero = 0
doubled (suc x) = x

not_ones : (x n : ℕ) → x < n → eqb x n ≡ false
not_ones x n h = by_test (eqb x n) refl
  where
    by_test : (b : Bool) → eqb x n ≡ b → b ≡ false
    by_test true e = absurd (omega (arith, h, eqb-true x n e))
    by_test false e = refl

-- fields that are no infinity's have this value
pub fields_value : (f : Format) (s : Bool) (x rest : ℕ) → x < ones f → HasValue (of_fields f s x rest) s (lead f x rest * 2 ^ doubled x) (2 ^ low f)
unfolding of_fields
fields_value f s zero rest h = odd_sign (prec f) s rest 0 (low f)
fields_value f s (suc x) rest h =
    subst (λ (b : Bool). HasValue (cond b (cond (eqb rest 0) (inf s) nan) (odd (prec f) s (hid f + rest) x (low f))) s ((hid f + rest) * 2 ^ x) (2 ^ low f))
    (sym (not_ones (suc x) (ones f) h)) (odd_sign (prec f) s (hid f + rest) x (low f))

-- a pattern that is no infinity's has this value
pub pattern_value : (f : Format) (b : ℕ) → b % top f / hid f < ones f
    → HasValue (of_bits f b) (leb (top f) b) (lead f (b % top f / hid f) (b % hid f) * 2 ^ doubled (b % top f / hid f)) (2 ^ low f)
unfolding of_bits
pattern_value f b h = fields_value f (leb (top f) b) (b % top f / hid f) (b % hid f) h

-- what is a number has no pattern of infinity
no_infinity : (f : Format) (t : Bool) (x rest : ℕ) (s : Bool) (m : ℕ) (e : ℤ) → eqb x (ones f) ≡ true → of_fields f t x rest ≡ fin s m e → ⊥
unfolding of_fields
no_infinity f t zero rest s m e is h = no_ones f is
  where
    no_ones : (f : Format) → eqb 0 (ones f) ≡ true → ⊥
    no_ones binary32 is = absurd (omega (arith, eqb-true 0 255 is))
    no_ones binary64 is = absurd (omega (arith, eqb-true 0 2047 is))
no_infinity f t (suc x) rest s m e is h =
    by_test (eqb rest 0) (subst (λ (b : Bool). cond b (cond (eqb rest 0) (inf t) nan) (odd (prec f) t (hid f + rest) x (low f)) ≡ fin s m e) is h)
  where
    by_test : (b : Bool) → cond b (inf t) nan ≡ fin s m e → ⊥
    by_test true h = absurd (cc)
    by_test false h = absurd (cc)

exponent_of_number : (b : ℕ) (s : Bool) (m : ℕ) (e : ℤ) → of_bits binary64 b ≡ fin s m e → b % 2 ^ 63 / 2 ^ 52 < 2047
unfolding of_bits
exponent_of_number b s m e h = by_test (eqb (b % 2 ^ 63 / 2 ^ 52) 2047) refl
  where
    by_test : (t : Bool) → eqb (b % 2 ^ 63 / 2 ^ 52) 2047 ≡ t → b % 2 ^ 63 / 2 ^ 52 < 2047
    by_test true is = absurd (no_infinity binary64 (leb (2 ^ 63) b) (b % 2 ^ 63 / 2 ^ 52) (b % 2 ^ 52) s m e is h)
    by_test false is = let other = eqb-false (b % 2 ^ 63 / 2 ^ 52) 2047 is in grind (arith, other)

-- the pattern of a number says it
pub number_value : (s : Bool) (m : ℕ) (e : ℤ) → T (fits binary64 (fin s m e))
    → let b = to_bits binary64 (fin s m e) in
    HasValue (fin s m e) (leb (2 ^ 63) b) (lead binary64 (b % 2 ^ 63 / 2 ^ 52) (b % 2 ^ 52) * 2 ^ doubled (b % 2 ^ 63 / 2 ^ 52)) (2 ^ 1074)
number_value s m e fit =
    let b = to_bits binary64 (fin s m e) in
    let back = of_bits-to_bits binary64 (fin s m e) fit in
    subst (λ (x : Float). HasValue x (leb (2 ^ 63) b) (lead binary64 (b % 2 ^ 63 / 2 ^ 52) (b % 2 ^ 52) * 2 ^ doubled (b % 2 ^ 63 / 2 ^ 52)) (2 ^ 1074)) back
    (pattern_value binary64 b (exponent_of_number b s m e back))
