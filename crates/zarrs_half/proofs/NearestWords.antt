-- The bits of the number nearest to a binary64.
use Rattle.std.proofs.Common.{◌≡◌, ◌∙◌, ◌⊎◌, inl, inr, ◌<◌, ◌≤◌, ℕ, zero, suc, ◌+◌, ◌-◌, ◌*◌, ◌/◌, ◌^◌, refl, ap, ap₂, sym, subst, arith}
use Rattle.std.specs.Prelude.{min}
use Rattle.std.proofs.lemmas.Bool.{cases_lt}
use Rattle.std.proofs.lemmas.Nat.{pow-add, pow_pos}
use native.Mathlib.Nat.{mul_assoc, mul_comm, mul_right_comm, mul-pos, eq_of_mul-eq-mul_right}
use lib.Pow.{pow_mono, shl_lt}
use lib.Ieee.{size}
use lib.Ieee.Digits.{size-le}
use lib.Ieee.Nearest.{closest, closest_same, div_same}
use Rattle.zarrs_half.specs.ByPattern.{above_least, word_of}
use Rattle.zarrs_half.specs.HalfFloats.{digits_of, low_of, nearest_word}
use Rattle.zarrs_half.specs.declared.half_format.HalfFormat.{HalfFormat}
use Rattle.zarrs_half.specs.declared.half_format.HalfFormat.TheVariants.{Binary16, Bfloat16}
use Rattle.zarrs_half.proofs.Shifts.{closest_to_none, size_is}

pub least_is : (format : HalfFormat) → low_of format + above_least format ≡ 1074
least_is Binary16 = refl
least_is Bfloat16 = refl

-- a number is a significand that is doubled so many times, in units of the least binary64
abbrev pub IsDoubled : ℕ → ℕ → ℕ → ℕ → Type 0
IsDoubled a c significand doublings = a * 2 ^ 1074 ≡ significand * 2 ^ doublings * c

-- ---- how many digits are dropped

-- an exponent's steps are counted by the doublings
steps : (format : HalfFormat) (x significand doublings : ℕ) → significand < 2 ^ 53 → (doublings ≡ 0) ⊎ (2 ^ 52 ≤ significand)
    → x ≡ significand * 2 ^ doublings / 2 ^ above_least format
    → size x - suc (digits_of format) ≡ 52 + doublings - (above_least format + digits_of format)
steps format x significand doublings few lead is =
    elim (cases_lt (52 + doublings) (above_least format)) [
      | inl less ↦ below less
      | inr more ↦ above more
    ]
  where
    g : ℕ
    g = above_least format

    below : 52 + doublings < g → size x - suc (digits_of format) ≡ 52 + doublings - (g + digits_of format)
    below less =
        let small : significand * 2 ^ doublings < 2 ^ g = native.Mathlib.Nat.lt_of_lt_of_le (shl_lt 53 doublings few) (pow_mono (omega arith)) in
        let none : x ≡ 0 = is ∙ native.Mathlib.Nat.div-eq_of_lt small in
        let no_digits : size x ≤ 0 = size-le x 0 (omega (arith, none)) in
        omega (arith, no_digits, less)

    above : g ≤ 52 + doublings → size x - suc (digits_of format) ≡ 52 + doublings - (g + digits_of format)
    above more =
        let leads : 2 ^ 52 ≤ significand = elim lead [ inl none ↦ absurd (no_doublings none more) | inr there ↦ there ] in
        let digits : size x ≡ suc (52 + doublings - g) = size_is x (52 + doublings - g) (least leads more) (most more) in
        omega (arith, digits, more)
      where
        no_doublings : doublings ≡ 0 → g ≤ 52 + doublings → ⊥
        no_doublings none more = few_steps format (omega (arith, none, more))
          where
            few_steps : (format : HalfFormat) → above_least format ≤ 52 → ⊥
            few_steps Binary16 h = omega (arith, h)
            few_steps Bfloat16 h = omega (arith, h)

        least : 2 ^ 52 ≤ significand → g ≤ 52 + doublings → 2 ^ (52 + doublings - g) ≤ x
        least leads more =
            let whole : 2 ^ (52 + doublings - g) * 2 ^ g ≡ 2 ^ (52 + doublings) =
            sym (pow-add 2 (52 + doublings - g) g) ∙ ap (λ (k : ℕ). 2 ^ k) (omega (arith, more)) in
            let from : 2 ^ (52 + doublings) ≤ significand * 2 ^ doublings =
            subst (λ (k : ℕ). k ≤ significand * 2 ^ doublings) (sym (pow-add 2 52 doublings)) (native.Mathlib.Nat.mul-le-mul_right (2 ^ doublings) leads) in
            subst (λ (k : ℕ). 2 ^ (52 + doublings - g) ≤ k) (sym is)
            ((native.Mathlib.Nat.le-div_iff_mul-le (pow_pos g)).1 (subst (λ (k : ℕ). k ≤ significand * 2 ^ doublings) (sym whole) from))

        most : g ≤ 52 + doublings → x < 2 ^ suc (52 + doublings - g)
        most more =
            let whole : 2 ^ suc (52 + doublings - g) * 2 ^ g ≡ 2 ^ (53 + doublings) =
            sym (pow-add 2 (suc (52 + doublings - g)) g) ∙ ap (λ (k : ℕ). 2 ^ k) (omega (arith, more)) in
            subst (λ (k : ℕ). k < 2 ^ suc (52 + doublings - g)) (sym is)
            ((native.Mathlib.Nat.div-lt_iff_lt-mul (pow_pos g)).1 (subst (λ (k : ℕ). significand * 2 ^ doublings < k) (sym whole) (shl_lt 53 doublings few)))

-- no more than 54 places need be dropped
few_places : (significand places : ℕ) → significand < 2 ^ 53 → closest significand (2 ^ places) ≡ closest significand (2 ^ min places 54)
few_places significand places few = elim (cases_lt 54 places) [
  | inl many ↦
      let most : min places 54 ≡ 54 = omega (arith, many) in
      let far : 2 ^ 54 ≤ 2 ^ places = pow_mono {i = 54} {j = places} (omega (arith, many)) in
      closest_to_none significand (2 ^ places) (omega (arith, far, few))
      ∙ sym (ap (λ (k : ℕ). closest significand (2 ^ k)) most ∙ closest_to_none significand (2 ^ 54) (omega (arith, few)))
  | inr not_many ↦ ap (λ (k : ℕ). closest significand (2 ^ k)) (omega (arith, not_many))
]

-- ---- the bits

-- a number without the places that are dropped
without_places : (format : HalfFormat) (a c significand doublings k places : ℕ) → 0 < c → IsDoubled a c significand doublings
    → doublings + places ≡ above_least format + k → closest (a * 2 ^ low_of format) (c * 2 ^ k) ≡ closest significand (2 ^ places)
without_places format a c significand doublings k places positive is level =
    closest_same (a * 2 ^ low_of format) (c * 2 ^ k) significand (2 ^ places) (mul-pos positive (pow_pos k)) (pow_pos places)
    (eq_of_mul-eq-mul_right (2 ^ doublings) (pow_pos doublings) (a * 2 ^ low_of format * 2 ^ places) (significand * (c * 2 ^ k)) doubled)
  where
    powers : 2 ^ low_of format * 2 ^ places * 2 ^ doublings ≡ 2 ^ 1074 * 2 ^ k
    powers =
        ap (λ (n : ℕ). n * 2 ^ doublings) (sym (pow-add 2 (low_of format) places)) ∙ sym (pow-add 2 (low_of format + places) doublings)
        ∙ ap (λ (n : ℕ). 2 ^ n) (omega (arith, least_is format, level)) ∙ pow-add 2 1074 k

    doubled : a * 2 ^ low_of format * 2 ^ places * 2 ^ doublings ≡ significand * (c * 2 ^ k) * 2 ^ doublings
    doubled =
        ap (λ (n : ℕ). n * 2 ^ doublings) (mul_assoc a (2 ^ low_of format) (2 ^ places))
        ∙ mul_assoc a (2 ^ low_of format * 2 ^ places) (2 ^ doublings)
        ∙ ap (λ (n : ℕ). a * n) powers
        ∙ sym (mul_assoc a (2 ^ 1074) (2 ^ k))
        ∙ ap (λ (n : ℕ). n * 2 ^ k) is
        ∙ mul_assoc (significand * 2 ^ doublings) c (2 ^ k)
        ∙ mul_right_comm significand (2 ^ doublings) (c * 2 ^ k)

-- its whole part in units of the least number
whole_units : (format : HalfFormat) (a c significand doublings : ℕ) → 0 < c → IsDoubled a c significand doublings
    → a * 2 ^ low_of format / c ≡ significand * 2 ^ doublings / 2 ^ above_least format
whole_units format a c significand doublings positive is =
    div_same (a * 2 ^ low_of format) c (significand * 2 ^ doublings) (2 ^ above_least format) positive (pow_pos (above_least format))
    (mul_assoc a (2 ^ low_of format) (2 ^ above_least format)
    ∙ ap (λ (n : ℕ). a * n) (sym (pow-add 2 (low_of format) (above_least format)) ∙ ap (λ (n : ℕ). 2 ^ n) (least_is format))
    ∙ is)

small_format : (format : HalfFormat) → digits_of format ≤ 52
small_format Binary16 = omega arith
small_format Bfloat16 = omega arith

-- the nearest number's bits are found by the significand
pub nearest_is : (format : HalfFormat) (a c significand doublings : ℕ) → 0 < c → significand < 2 ^ 53 → (doublings ≡ 0) ⊎ (2 ^ 52 ≤ significand)
    → IsDoubled a c significand doublings → nearest_word format a c ≡ word_of format significand doublings
nearest_is format a c significand doublings positive few lead is =
    let k = 52 + doublings - (above_least format + digits_of format) in
    let places = above_least format + k - doublings in
    let steps_are = steps format (a * 2 ^ low_of format / c) significand doublings few lead (whole_units format a c significand doublings positive is) in
    let level : doublings + places ≡ above_least format + k = omega (arith, small_format format) in
    ap (λ (n : ℕ). n * 2 ^ digits_of format + closest (a * 2 ^ low_of format) (c * 2 ^ n)) steps_are
    ∙ ap (λ (n : ℕ). k * 2 ^ digits_of format + n)
    (without_places format a c significand doublings k places positive is level ∙ few_places significand places few)
