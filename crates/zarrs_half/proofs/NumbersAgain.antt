-- The number that 16 bits are has these bits.
use Rattle.std.proofs.Common.{◌≡◌, ◌∙◌, ◌<◌, ◌≤◌, ℕ, zero, suc, ◌+◌, ◌-◌, ◌*◌, ◌/◌, ◌%◌, ◌^◌, ◌==◌, Bool, true, false, cond, Some, None, Option, refl, ap, ap₂, sym, subst, arith, eqb-true}
use Rattle.std.proofs.lemmas.Bool.{lt-ltb, ltb-true, leb-true, leb-false, eqb-false}
use Rattle.std.proofs.lemmas.Nat.{pow-add, pow_pos}
use Rattle.std.specs.Float.{float_is_finite}
use native.Mathlib.Nat.{mul_assoc, mul_comm, mul_right_comm, mul-pos, lt_of_lt_of_le, mul-one, add-mul}
use lib.Dec.{leb, ltb}
use lib.IntN.{ℤ}
use lib.Pow.{pow_mono, shl_lt}
use lib.Ieee.{Float, nan, inf, fin, binary64, up, down, size, round}
use lib.Ieee.Digits.{size-le}
use lib.Ieee.Exact.{HasValue, round_exact}
use lib.Ieee.Fits.{down_pos}
use lib.Ieee.Nearest.{closest, closest_same, div_same}
use Rattle.zarrs_half.specs.ByPattern.{above_least}
use Rattle.zarrs_half.specs.HalfFloats.{digits_of, low_of, infinity_of, units_of, half_number, nearest_word, with_sign, finite_half, half_bits}
use Rattle.zarrs_half.specs.declared.half_format.HalfFormat.{HalfFormat}
use Rattle.zarrs_half.specs.declared.half_format.HalfFormat.TheVariants.{Binary16, Bfloat16}
use Rattle.zarrs_half.proofs.NearestWords.{least_is}
use Rattle.zarrs_half.proofs.Shifts.{closest_to_whole, size_doubled}

-- ---- bits without a sign are a significand that is doubled so many times

-- of those with a leading one
leading : (format : HalfFormat) (word : ℕ) → (word / 2 ^ digits_of format == 0) ≡ false
    → units_of format word ≡ (2 ^ digits_of format + word % 2 ^ digits_of format) * 2 ^ (word / 2 ^ digits_of format - 1)
leading format word e =
    ap (λ (b : Bool). cond b word ((2 ^ digits_of format + word % 2 ^ digits_of format) * 2 ^ (word / 2 ^ digits_of format - 1))) e

-- and of the others
without_leading : (format : HalfFormat) (word : ℕ) → (word / 2 ^ digits_of format == 0) ≡ true → units_of format word ≡ word
without_leading format word e =
    ap (λ (b : Bool). cond b word ((2 ^ digits_of format + word % 2 ^ digits_of format) * 2 ^ (word / 2 ^ digits_of format - 1))) e

-- ---- the nearest number to one that is one

nearest_to_units : (format : HalfFormat) (a c n : ℕ) → 0 < c → a * 2 ^ low_of format ≡ n * c
    → nearest_word format a c ≡ (size n - suc (digits_of format)) * 2 ^ digits_of format + closest n (2 ^ (size n - suc (digits_of format)))
nearest_to_units format a c n positive is =
    let k = size n - suc (digits_of format) in
    let whole : a * 2 ^ low_of format / c ≡ n =
    div_same (a * 2 ^ low_of format) c n 1 positive (omega arith) (mul-one (a * 2 ^ low_of format) ∙ is) ∙ one n in
    let same : a * 2 ^ low_of format * 2 ^ k ≡ n * (c * 2 ^ k) = ap (λ (x : ℕ). x * 2 ^ k) is ∙ mul_assoc n c (2 ^ k) in
    ap (λ (x : ℕ). (size x - suc (digits_of format)) * 2 ^ digits_of format + closest (a * 2 ^ low_of format) (c * 2 ^ (size x - suc (digits_of format)))) whole
    ∙ ap (λ (x : ℕ). k * 2 ^ digits_of format + x)
    (closest_same (a * 2 ^ low_of format) (c * 2 ^ k) n (2 ^ k) (mul-pos positive (pow_pos k)) (pow_pos k) same)
  where
    one : (n : ℕ) → n / 1 ≡ n
    one n = omega arith

with_digits : (format : HalfFormat) (n k : ℕ) → size n - suc (digits_of format) ≡ k
    → (size n - suc (digits_of format)) * 2 ^ digits_of format + closest n (2 ^ (size n - suc (digits_of format))) ≡ k * 2 ^ digits_of format + closest n (2 ^ k)
with_digits format n k is = ap (λ (x : ℕ). x * 2 ^ digits_of format + closest n (2 ^ x)) is

word_again : (format : HalfFormat) (word : ℕ)
    → (size (units_of format word) - suc (digits_of format)) * 2 ^ digits_of format + closest (units_of format word) (2 ^ (size (units_of format word) - suc (digits_of format))) ≡ word
word_again format word = by_test (word / 2 ^ digits_of format == 0) refl
  where
    d : ℕ
    d = digits_of format

    by_test : (b : Bool) → (word / 2 ^ d == 0) ≡ b
        → (size (units_of format word) - suc d) * 2 ^ d + closest (units_of format word) (2 ^ (size (units_of format word) - suc d)) ≡ word
    by_test true e =
        let few : word < 2 ^ d = below (eqb-true (word / 2 ^ d) 0 e) in
        let short : size word - suc d ≡ 0 = omega (arith, size-le word d few) in
        ap (λ (n : ℕ). (size n - suc d) * 2 ^ d + closest n (2 ^ (size n - suc d))) (without_leading format word e)
        ∙ with_digits format word 0 short
        ∙ ap (λ (n : ℕ). 0 * 2 ^ d + closest n 1) (sym (mul-one word))
        ∙ ap (λ (n : ℕ). 0 * 2 ^ d + n) (closest_to_whole word 1 (omega arith))
        ∙ omega arith
      where
        below : word / 2 ^ d ≡ 0 → word < 2 ^ d
        below none = native.Mathlib.Nat.lt_of_not-le (λ (more : 2 ^ d ≤ word). clash none more)
          where
            clash : word / 2 ^ d ≡ 0 → 2 ^ d ≤ word → ⊥
            clash none more =
                let once : 1 * 2 ^ d ≤ word = omega (arith, more) in
                let some : 1 ≤ word / 2 ^ d = (native.Mathlib.Nat.le-div_iff_mul-le (pow_pos d)).1 once in
                omega (arith, none, some)
    by_test false e =
        let x = word / 2 ^ d in
        let rest = word % 2 ^ d in
        let lead = 2 ^ d + rest in
        let under : rest < 2 ^ d = native.Mathlib.Nat.mod-lt word (pow_pos d) in
        let digits : size (lead * 2 ^ (x - 1)) ≡ suc d + (x - 1) = size_doubled lead d (x - 1) (omega arith) (twice lead (omega (arith, under))) in
        let steps : size (lead * 2 ^ (x - 1)) - suc d ≡ x - 1 = omega (arith, digits) in
        ap (λ (n : ℕ). (size n - suc d) * 2 ^ d + closest n (2 ^ (size n - suc d))) (leading format word e)
        ∙ with_digits format (lead * 2 ^ (x - 1)) (x - 1) steps
        ∙ ap (λ (n : ℕ). (x - 1) * 2 ^ d + n) (closest_to_whole lead (2 ^ (x - 1)) (pow_pos (x - 1)))
        ∙ carried x rest (eqb-false x 0 e)
        ∙ Rattle.std.proofs.lemmas.Nat.div-add-mod' word (2 ^ d)
      where
        twice : (lead : ℕ) → lead < 2 ^ d + 2 ^ d → lead < 2 ^ suc d
        twice lead h =
            let doubled : 2 ^ (d + 1) ≡ 2 ^ d * 2 ^ 1 = pow-add 2 d 1 in
            let next : d + 1 ≡ suc d = omega arith in
            subst (λ (n : ℕ). lead < 2 ^ n) next (omega (arith, doubled, h))

        carried : (x rest : ℕ) → (x ≡ 0 → ⊥) → (x - 1) * 2 ^ d + (2 ^ d + rest) ≡ x * 2 ^ d + rest
        carried zero rest some = absurd (some refl)
        carried (suc x) rest some =
            let one_less : suc x - 1 ≡ x = omega arith in
            let one_more : x + 1 ≡ suc x = omega arith in
            let split : (x + 1) * 2 ^ d ≡ x * 2 ^ d + 1 * 2 ^ d = add-mul x 1 (2 ^ d) in
            let whole : x * 2 ^ d + (2 ^ d + rest) ≡ (x + 1) * 2 ^ d + rest = omega (arith, split) in
            ap (λ (n : ℕ). n * 2 ^ d + (2 ^ d + rest)) one_less ∙ whole ∙ ap (λ (n : ℕ). n * 2 ^ d + rest) one_more

-- the nearest number to one that is one has its bits
pub nearest_again : (format : HalfFormat) (word a c : ℕ) → 0 < c → a * 2 ^ low_of format ≡ units_of format word * c → nearest_word format a c ≡ word
nearest_again format word a c positive is = nearest_to_units format a c (units_of format word) positive is ∙ word_again format word

-- ---- each number fits a binary64

-- a significand of 53 places at most, doubled at most so often
abbrev FewUnits : HalfFormat → ℕ → Type 0
FewUnits format word = (q j : ℕ) × (units_of format word ≡ q * 2 ^ j) × (q < 2 ^ 53) × (j ≤ 254)

few_units : (format : HalfFormat) (word : ℕ) → word < infinity_of format → FewUnits format word
few_units format word below = by_test (word / 2 ^ digits_of format == 0) refl
  where
    small : (format : HalfFormat) → word < infinity_of format → word < 2 ^ 53
    small Binary16 h = omega (arith, h)
    small Bfloat16 h = omega (arith, h)

    short : (format : HalfFormat) → 2 ^ digits_of format + word % 2 ^ digits_of format < 2 ^ 53
    short Binary16 = omega arith
    short Bfloat16 = omega arith

    steps : (format : HalfFormat) → word < infinity_of format → word / 2 ^ digits_of format - 1 ≤ 254
    steps Binary16 h = omega (arith, h)
    steps Bfloat16 h = omega (arith, h)

    by_test : (b : Bool) → (word / 2 ^ digits_of format == 0) ≡ b → FewUnits format word
    by_test true e = (word, 0, without_leading format word e ∙ omega arith, small format below, omega arith)
    by_test false e =
        (2 ^ digits_of format + word % 2 ^ digits_of format, word / 2 ^ digits_of format - 1, leading format word e, short format, steps format below)

-- so many units are a float's value
pub units_value : (format : HalfFormat) (s : Bool) (word : ℕ) → word < infinity_of format
    → HasValue (round binary64 s (units_of format word) (2 ^ low_of format)) s (units_of format word) (2 ^ low_of format)
units_value format s word below =
    let (q, j, is, few, most) = few_units format word below in
    let g = above_least format in
    let small : q * 2 ^ (j + g) < 2 ^ 2098 = lt_of_lt_of_le (shl_lt 53 (j + g) few) (pow_mono {i = 53 + (j + g)} {j = 2098} (room format most)) in
    let same : units_of format word * 2 ^ 1074 ≡ q * 2 ^ (j + g) * 2 ^ low_of format =
    ap₂ (λ (n : ℕ) (p : ℕ). n * 2 ^ p) is (sym (least_is format))
    ∙ ap (λ (n : ℕ). q * 2 ^ j * n) (pow-add 2 (low_of format) g ∙ mul_comm (2 ^ low_of format) (2 ^ g))
    ∙ sym (mul_assoc (q * 2 ^ j) (2 ^ g) (2 ^ low_of format))
    ∙ ap (λ (n : ℕ). n * 2 ^ low_of format) (mul_assoc q (2 ^ j) (2 ^ g) ∙ ap (λ (n : ℕ). q * n) (sym (pow-add 2 j g))) in
    round_exact binary64 s (units_of format word) (2 ^ low_of format) q (j + g) (pow_pos (low_of format)) few small same
  where
    room : (format : HalfFormat) {j : ℕ} → j ≤ 254 → 53 + (j + above_least format) ≤ 2098
    room Binary16 h = omega (arith, h)
    room Bfloat16 h = omega (arith, h)

-- ---- the number of 16 bits

half_of_value : (format : HalfFormat) (x : Float) (s : Bool) (word : ℕ) → word < infinity_of format
    → HasValue x s (units_of format word) (2 ^ low_of format) → half_bits format x ≡ Some (with_sign s word)
half_of_value format nan s word below v = absurd v
half_of_value format (inf t) s word below v = absurd v
half_of_value format (fin t m e) s word below v =
    ap₂ (finite_half format) v.0 (nearest_again format word (m * up e) (down e) (down_pos e) v.1)
    ∙ ap (λ (b : Bool). cond b (Some (with_sign s word)) None) (lt-ltb word (infinity_of format) below)

pub number_again : (format : HalfFormat) (bits : ℕ) (number : Float) → bits < 65536 → half_number format bits ≡ Some number → half_bits format number ≡ Some bits
number_again format bits number small h = by_test (ltb (bits % 0x8000) (infinity_of format)) refl h
  where
    word : ℕ
    word = bits % 0x8000

    signed : (b : Bool) → leb 0x8000 bits ≡ b → with_sign b word ≡ bits
    signed true e = let most = leb-true 0x8000 bits e in omega (arith, most, small)
    signed false e = let few = leb-false 0x8000 bits e in omega (arith, few, small)

    by_test : (b : Bool) → ltb word (infinity_of format) ≡ b
        → cond b (Some (round binary64 (leb 0x8000 bits) (units_of format word) (2 ^ low_of format))) None ≡ Some number → half_bits format number ≡ Some bits
    by_test false e h = absurd (cc)
    by_test true e h =
        let is : round binary64 (leb 0x8000 bits) (units_of format word) (2 ^ low_of format) ≡ number = cc in
        let below : word < infinity_of format = ltb-true word (infinity_of format) e in
        ap (half_bits format) (sym is)
        ∙ half_of_value format (round binary64 (leb 0x8000 bits) (units_of format word) (2 ^ low_of format)) (leb 0x8000 bits) word below
        (units_value format (leb 0x8000 bits) word below)
        ∙ ap Some (signed (leb 0x8000 bits) refl)

finite_of_value : (x : Float) (s : Bool) (a c : ℕ) → HasValue x s a c → float_is_finite x ≡ true
unfolding float_is_finite
finite_of_value nan s a c v = absurd v
finite_of_value (inf t) s a c v = absurd v
finite_of_value (fin t m e) s a c v = refl

-- and that float is finite
pub units_are_finite : (format : HalfFormat) (s : Bool) (word : ℕ) → word < infinity_of format
    → float_is_finite (round binary64 s (units_of format word) (2 ^ low_of format)) ≡ true
units_are_finite format s word below =
    finite_of_value (round binary64 s (units_of format word) (2 ^ low_of format)) s (units_of format word) (2 ^ low_of format) (units_value format s word below)
