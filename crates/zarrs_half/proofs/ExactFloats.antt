-- A float that a format holds is its own nearest one there.
use Rattle.std.proofs.Common.{◌≡◌, ◌∙◌, ◌<◌, ◌≤◌, ℕ, zero, suc, ◌+◌, ◌-◌, ◌*◌, ◌/◌, ◌%◌, ◌^◌, Bool, cond, ◌&&◌, refl, ap, sym, subst, arith}
use Rattle.std.specs.Float.{round_to_format}
use Rattle.std.proofs.lemmas.Nat.{pow-add, pow_below, pow_pos}
use native.Mathlib.Nat.{mul_assoc, mul_comm, mul_right_comm, mul-one, zero-mul, mul-lt-mul_of_pos_right}
use lib.IntN.{ℤ, pos, negsuc}
use lib.Dec.{T, leb, ltb, eqb, ltb→lt, leb→le}
use lib.Ieee.{Float, Format, nan, inf, fin, prec, emax, low, hid, top, up, down, size, round, fits, to_bits, of_bits}
use lib.Ieee.Bits.{of_bits-to_bits}
use lib.Ieee.Exact.{HasValue, round_exact}
use lib.Ieee.Fits.{and_l, and_r, down_pos, round-fits}
use lib.Ieee.Nearest.{div_same}

-- the bits of a size in units of the least float above 0
abbrev bits_of_size : Format → Bool → ℕ → ℕ
bits_of_size f s n = cond s (top f) 0 + (size n - prec f) * hid f + n / 2 ^ (size n - prec f)

to_bits-value : (f : Format) (x : Float) (s : Bool) (a c : ℕ) → 0 < c → HasValue x s a c → to_bits f x ≡ bits_of_size f s (a * 2 ^ low f / c)
unfolding to_bits
to_bits-value f nan s a c h v = absurd v
to_bits-value f (inf t) s a c h v = absurd v
to_bits-value f (fin t m e) s a c h v =
    let same : m * up e * 2 ^ low f * c ≡ a * 2 ^ low f * down e =
    mul_right_comm (m * up e) (2 ^ low f) c ∙ ap (λ (n : ℕ). n * 2 ^ low f) v.1 ∙ mul_right_comm a (down e) (2 ^ low f) in
    ap (λ (u : Bool). bits_of_size f u (m * up e * 2 ^ low f / down e)) v.0
    ∙ ap (bits_of_size f s) (div_same (m * up e * 2 ^ low f) (down e) (a * 2 ^ low f) c (down_pos e) h same)

-- floats of one format that have one value are one
pub same_value : (f : Format) (x y : Float) (s : Bool) (a c : ℕ) → 0 < c → T (fits f x) → T (fits f y) → HasValue x s a c → HasValue y s a c → x ≡ y
same_value f x y s a c h p q v w =
    sym (of_bits-to_bits f x p) ∙ ap (of_bits f) (to_bits-value f x s a c h v ∙ sym (to_bits-value f y s a c h w)) ∙ of_bits-to_bits f y q

-- m * 2^k in units of 2^-l
up_value : (m k l : ℕ) → m * 2 ^ k * 2 ^ l ≡ m * 2 ^ (k + l) * 1
up_value m k l = mul_assoc m (2 ^ k) (2 ^ l) ∙ ap (λ (n : ℕ). m * n) (sym (pow-add 2 k l)) ∙ sym (mul-one (m * 2 ^ (k + l)))

up_bound : (m k l e : ℕ) → m * 2 ^ k < 2 ^ e * 1 → m * 2 ^ (k + l) < 2 ^ (l + e)
up_bound m k l e h =
    let below : m * 2 ^ k < 2 ^ e = subst (λ (n : ℕ). m * 2 ^ k < n) (mul-one (2 ^ e)) h in
    let left : m * 2 ^ k * 2 ^ l ≡ m * 2 ^ (k + l) = mul_assoc m (2 ^ k) (2 ^ l) ∙ ap (λ (n : ℕ). m * n) (sym (pow-add 2 k l)) in
    let right : 2 ^ e * 2 ^ l ≡ 2 ^ (l + e) = mul_comm (2 ^ e) (2 ^ l) ∙ sym (pow-add 2 l e) in
    subst (λ (n : ℕ). n < 2 ^ (l + e)) left (subst (λ (n : ℕ). m * 2 ^ k * 2 ^ l < n) right (mul-lt-mul_of_pos_right below (pow_pos l)))

-- m / 2^k in units of 2^-l, where l is j + k
down_value : (m j k l : ℕ) → j + k ≡ l → m * 1 * 2 ^ l ≡ m * 2 ^ j * 2 ^ k
down_value m j k l h =
    ap (λ (n : ℕ). n * 2 ^ l) (mul-one m)
    ∙ ap (λ (n : ℕ). m * 2 ^ n) (sym h) ∙ ap (λ (n : ℕ). m * n) (pow-add 2 j k) ∙ sym (mul_assoc m (2 ^ j) (2 ^ k))

down_bound : (m j k l e : ℕ) → j + k ≡ l → m * 1 < 2 ^ e * 2 ^ k → m * 2 ^ j < 2 ^ (l + e)
down_bound m j k l e is h =
    let below : m < 2 ^ e * 2 ^ k = subst (λ (n : ℕ). n < 2 ^ e * 2 ^ k) (mul-one m) h in
    let right : 2 ^ e * 2 ^ k * 2 ^ j ≡ 2 ^ (l + e) =
    mul_assoc (2 ^ e) (2 ^ k) (2 ^ j) ∙ ap (λ (n : ℕ). 2 ^ e * n) (mul_comm (2 ^ k) (2 ^ j) ∙ sym (pow-add 2 j k) ∙ ap (λ (n : ℕ). 2 ^ n) is)
    ∙ mul_comm (2 ^ e) (2 ^ l) ∙ sym (pow-add 2 l e) in
    subst (λ (n : ℕ). m * 2 ^ j < n) right (mul-lt-mul_of_pos_right below (pow_pos j))

-- a power that isn't above another has no greater exponent
exponent_le : (k l : ℕ) → 2 ^ k ≤ 2 ^ l → (l < k → ⊥)
exponent_le k l h less = let more : 2 ^ l < 2 ^ k = pow_below l k less in omega (arith, h, more)

exact_value : (f : Format) (s : Bool) (m : ℕ) (e : ℤ) → m < 2 ^ prec f → down e ≤ 2 ^ low f → m * up e < 2 ^ suc (emax f) * down e → HasValue (round f s (m * up e) (down e)) s (m * up e) (down e)
exact_value f s m (pos k) small fine high =
    round_exact f s (m * 2 ^ k) 1 m (k + low f) (omega arith) small (up_bound m k (low f) (suc (emax f)) high) (up_value m k (low f))
exact_value f s m (negsuc k) small fine high =
    let within : suc k ≤ low f = let no = exponent_le (suc k) (low f) fine in not_less (suc k) (low f) no in
    let is : low f - suc k + suc k ≡ low f = omega (arith, within) in
    round_exact f s (m * 1) (2 ^ suc k) m (low f - suc k) (pow_pos (suc k)) small
    (down_bound m (low f - suc k) (suc k) (low f) (suc (emax f)) is high)
    (down_value m (low f - suc k) (suc k) (low f) is)
  where
    not_less : (a b : ℕ) → (b < a → ⊥) → a ≤ b
    not_less a b h = grind (arith, h)

zero_value : (f : Format) (s : Bool) (e : ℤ) → HasValue (round f s (zero * up e) (down e)) s (zero * up e) (down e)
zero_value f s e =
    let left : zero * up e * 2 ^ low f ≡ 0 = ap (λ (n : ℕ). n * 2 ^ low f) (zero-mul (up e)) ∙ zero-mul (2 ^ low f) in
    let right : 0 * 2 ^ 0 * down e ≡ 0 = ap (λ (n : ℕ). n * down e) (zero-mul (2 ^ 0)) ∙ zero-mul (down e) in
    round_exact f s (zero * up e) (down e) 0 0 (down_pos e) (pow_pos (prec f)) (pow_pos (low f + suc (emax f))) (left ∙ sym right)

fitting_value : (f : Format) (s : Bool) (m : ℕ) (e : ℤ) → T (fits f (fin s m e)) → HasValue (round f s (m * up e) (down e)) s (m * up e) (down e)
unfolding fits
fitting_value f s zero e h = zero_value f s e
fitting_value f s (suc m) e h =
    let A : Bool = eqb (suc m % 2) 1 in
    let B : Bool = ltb (suc m) (2 ^ prec f) in
    let C : Bool = leb (down e) (2 ^ low f) in
    let D : Bool = ltb (suc m * up e) (2 ^ suc (emax f) * down e) in
    exact_value f s (suc m) e
    (ltb→lt (suc m) (2 ^ prec f) (and_r A B (and_l (A && B) C (and_l (A && B && C) D h))))
    (leb→le (down e) (2 ^ low f) (and_r (A && B) C (and_l (A && B && C) D h)))
    (ltb→lt (suc m * up e) (2 ^ suc (emax f) * down e) (and_r (A && B && C) D h))

-- a float that a format holds is its own nearest one there
pub round_to_format-fits : (f : Format) (x : Float) → T (fits f x) → round_to_format f x ≡ x
unfolding round_to_format
round_to_format-fits f nan h = refl
round_to_format-fits f (inf s) h = refl
round_to_format-fits f (fin s m e) h =
    same_value f (round f s (m * up e) (down e)) (fin s m e) s (m * up e) (down e) (down_pos e)
    (round-fits f s (m * up e) (down e)) h (fitting_value f s m e h) (refl, refl)
