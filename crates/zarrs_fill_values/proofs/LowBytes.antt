-- Numbers as bytes.
use Rattle.std.proofs.Common.{◌≡◌, ◌∙◌, ◌<◌, ◌≤◌, ℕ, zero, suc, ◌+◌, ◌-◌, ◌*◌, ◌/◌, ◌%◌, ◌^◌, List, [], ◌∷◌, ◌++◌, length, refl, ap, sym, subst, arith, lit≤, add-one, append_assoc}
use Rattle.std.specs.Prelude.{Result, Ok, Err, OnOk}
use Rattle.std.proofs.lemmas.Nat.{div_below}
use native.Mathlib.Nat.{mul_assoc, pow-le-pow_right, pow-succ'}
use Rattle.zarrs_fill_values.specs.Words.{low_first, low_first_number, IsBytes}

-- the first byte, and those behind it
pub low_first_step : (size n : ℕ) → 0 < size → low_first size n ≡ n % 256 ∷ low_first (size - 1) (n / 256)
low_first_step zero n h = absurd (omega (arith, h))
low_first_step (suc size) n h = let e : suc size - 1 ≡ size = omega arith in rw e refl

-- a power of 256, one more
pub power_step : (size : ℕ) → 256 ^ suc size ≡ 256 * 256 ^ size
power_step size = pow-succ' 256 size

-- more bytes have no lower power
power_le : (i j : ℕ) → i ≤ j → 256 ^ i ≤ 256 ^ j
power_le i j h = pow-le-pow_right (lit≤ tt) h

-- a number of seven bytes at most, and one byte below it
pub one_byte_more : (bytes rest : List ℕ) (byte n : ℕ) → bytes ≡ byte ∷ rest → length bytes ≤ 8 → byte < 256 → n < 256 ^ length rest → (byte + 256 * n < 256 ^ length bytes) × (byte + 256 * n < 2 ^ 64)
one_byte_more bytes rest byte n is short small below =
    let longer : length bytes ≡ suc (length rest) = ap length is in
    let more : byte + 256 * n < 256 ^ suc (length rest) = omega (arith, small, below, power_step (length rest)) in
    let most : 256 ^ length bytes ≤ 256 ^ 8 = power_le (length bytes) 8 short in
    let whole : byte + 256 * n < 256 ^ length bytes = subst (λ size. byte + 256 * n < 256 ^ size) (sym longer) more in
    (whole, omega (arith, whole, most))

-- as many bytes as are asked for
pub length-low_first : (size n : ℕ) → length (low_first size n) ≡ size
length-low_first zero n = refl
length-low_first (suc size) n = ap suc (length-low_first size (n / 256))

-- the bytes of a number are those of this number
pub low_first_number-low_first : (size n : ℕ) → n < 256 ^ size → low_first_number (low_first size n) ≡ n
low_first_number-low_first zero n h = omega (arith, h)
low_first_number-low_first (suc size) n h =
    let below : n / 256 < 256 ^ size = div_below n 256 (256 ^ size) (omega arith) (omega (arith, h, power_step size)) in
    let rest : low_first_number (low_first size (n / 256)) ≡ n / 256 = low_first_number-low_first size (n / 256) below in
    omega (arith, rest)

-- bytes above the lowest ones don't matter
pub low_first-more : (size n q : ℕ) → low_first size (n + 256 ^ size * q) ≡ low_first size n
low_first-more zero n q = refl
low_first-more (suc size) n q =
    let product : 256 ^ suc size * q ≡ 256 * (256 ^ size * q) = ap (λ p. p * q) (power_step size) ∙ mul_assoc 256 (256 ^ size) q in
    let low : (n + 256 ^ suc size * q) % 256 ≡ n % 256 = omega (arith, product) in
    let high : (n + 256 ^ suc size * q) / 256 ≡ n / 256 + 256 ^ size * q = omega (arith, product) in
    rw (low, high, low_first-more size (n / 256) q) refl

-- the number of bytes is below a power of 256
pub low_first_number-below : (bytes : List ℕ) → IsBytes bytes → low_first_number bytes < 256 ^ length bytes
low_first_number-below [] h = omega arith
low_first_number-below (byte ∷ rest) h =
    let below : low_first_number rest < 256 ^ length rest = low_first_number-below rest (λ i. h (suc i)) in
    let first : byte < 256 = h 0 in
    let step : 256 ^ length (byte ∷ rest) ≡ 256 * 256 ^ length rest = power_step (length rest) in
    omega (arith, below, first, step)

-- bytes are those of their number
pub low_first-low_first_number : (bytes : List ℕ) → IsBytes bytes → low_first (length bytes) (low_first_number bytes) ≡ bytes
low_first-low_first_number [] h = refl
low_first-low_first_number (byte ∷ rest) h =
    let first : byte < 256 = h 0 in
    let low : (byte + 256 * low_first_number rest) % 256 ≡ byte = omega (arith, first) in
    let high : (byte + 256 * low_first_number rest) / 256 ≡ low_first_number rest = omega (arith, first) in
    rw (low, high, low_first-low_first_number rest (λ i. h (suc i))) refl

pub IsBytes-low_first : (size n : ℕ) → IsBytes (low_first size n)
IsBytes-low_first zero n i = omega arith
IsBytes-low_first (suc size) n zero = omega arith
IsBytes-low_first (suc size) n (suc i) = IsBytes-low_first size (n / 256) i

-- a number of seven bytes at most leaves room for one more
pub short_power : (size above : ℕ) → size ≤ 7 → above < 256 ^ size → 256 * above + 255 < 2 ^ 64
short_power size above h below = let most : 256 ^ size ≤ 256 ^ 7 = power_le size 7 h in omega (arith, most, below)

-- one byte more
pub byte_small : (size above : ℕ) → above < 256 ^ size → 256 * above + 256 ≤ 256 ^ (size + 1)
byte_small size above h = rw (add-one) (let step : 256 ^ suc size ≡ 256 * 256 ^ size = power_step size in omega (arith, step, h))

-- the first byte is appended, and then the others
pub appended_step : {E : Type 0} (result : Result (Unit {0}) E) (old pushed new : List ℕ) (size n : ℕ) → 0 < size → pushed ≡ old ++ (n % 256) ∷ [] → OnOk result (new ≡ pushed ++ low_first (size - 1) (n / 256)) → OnOk result (new ≡ old ++ low_first size n)
appended_step (Err e) old pushed new size n h p q = q
appended_step (Ok it) old pushed new size n h p q =
    q ∙ ap (λ front. front ++ low_first (size - 1) (n / 256)) p ∙ append_assoc old ((n % 256) ∷ []) (low_first (size - 1) (n / 256)) ∙ ap (λ rest. old ++ rest) (sym (low_first_step size n h))
