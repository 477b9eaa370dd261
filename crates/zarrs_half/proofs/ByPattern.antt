-- The nearest float of 16 bits is found by the pattern of a binary64.
use Rattle.std.proofs.Common.{◌≡◌, ◌∙◌, ◌⊎◌, inl, inr, ◌<◌, ◌≤◌, ℕ, zero, suc, ◌+◌, ◌-◌, ◌*◌, ◌/◌, ◌%◌, ◌^◌, ◌==◌, Bool, true, false, cond, refl, ap, ap₂, sym, subst, arith, eqb-true}
use lib.Dec.{T, leb}
use lib.IntN.{ℤ}
use lib.Ieee.{Float, nan, inf, fin, binary64, up, down, fits, to_bits}
use lib.Ieee.Fits.{down_pos}
use Rattle.zarrs_half.specs.ByPattern.{word_of, significand_of, half_of_pattern}
use Rattle.zarrs_half.specs.HalfFloats.{finite_half, half_bits}
use Rattle.zarrs_half.specs.declared.half_format.HalfFormat.{HalfFormat}
use Rattle.zarrs_half.specs.declared.half_format.HalfFormat.TheVariants.{Binary16, Bfloat16}
use Rattle.zarrs_half.proofs.NearestWords.{nearest_is}
use Rattle.zarrs_half.proofs.Patterns.{lead, doubled, number_value}

significand_is : (b x : ℕ) → b % 2 ^ 63 / 2 ^ 52 ≡ x → significand_of (b % 2 ^ 63) ≡ lead binary64 x (b % 2 ^ 52)
significand_is b zero is = ap (λ (t : Bool). cond t (b % 2 ^ 63) (2 ^ 52 + b % 2 ^ 63 % 2 ^ 52)) (ap (λ (n : ℕ). n == 0) is) ∙ omega (arith, is)
significand_is b (suc x) is = ap (λ (t : Bool). cond t (b % 2 ^ 63) (2 ^ 52 + b % 2 ^ 63 % 2 ^ 52)) (ap (λ (n : ℕ). n == 0) is ∙ not_zero x) ∙ omega arith
  where
    not_zero : (n : ℕ) → (suc n == 0) ≡ false
    not_zero n = by_test (suc n == 0) refl
      where
        by_test : (t : Bool) → (suc n == 0) ≡ t → t ≡ false
        by_test true e = absurd (omega (arith, eqb-true (suc n) 0 e))
        by_test false e = refl

doublings_are : (x : ℕ) → x - 1 ≡ doubled x
doublings_are zero = refl
doublings_are (suc x) = omega arith

few_digits : (x rest : ℕ) → rest < 2 ^ 52 → lead binary64 x rest < 2 ^ 53
few_digits zero rest h = omega (arith, h)
few_digits (suc x) rest h = omega (arith, h)

leads : (x rest : ℕ) → (doubled x ≡ 0) ⊎ (2 ^ 52 ≤ lead binary64 x rest)
leads zero rest = inl refl
leads (suc x) rest = inr (omega arith)

pub half_by_pattern : (format : HalfFormat) (x : Float) → T (fits binary64 x) → half_of_pattern format (to_bits binary64 x) ≡ half_bits format x
unfolding to_bits
half_by_pattern Binary16 nan fit = refl
half_by_pattern Bfloat16 nan fit = refl
half_by_pattern Binary16 (inf true) fit = refl
half_by_pattern Binary16 (inf false) fit = refl
half_by_pattern Bfloat16 (inf true) fit = refl
half_by_pattern Bfloat16 (inf false) fit = refl
half_by_pattern format (fin s m e) fit = of_number format s m e fit
  where
    of_number : (format : HalfFormat) (s : Bool) (m : ℕ) (e : ℤ) → T (fits binary64 (fin s m e))
        → half_of_pattern format (to_bits binary64 (fin s m e)) ≡ half_bits format (fin s m e)
    of_number format s m e fit =
        let b = to_bits binary64 (fin s m e) in
        let x = b % 2 ^ 63 / 2 ^ 52 in
        let rest = b % 2 ^ 52 in
        let value = number_value s m e fit in
        let nearest = nearest_is format (m * up e) (down e) (lead binary64 x rest) (doubled x) (down_pos e) (few_digits x rest (omega arith)) (leads x rest) value.1 in
        ap₂ (λ (n : ℕ) (j : ℕ). finite_half format (leb (2 ^ 63) b) (word_of format n j)) (significand_is b x refl) (doublings_are x)
        ∙ ap₂ (finite_half format) (sym value.0) (sym nearest)
