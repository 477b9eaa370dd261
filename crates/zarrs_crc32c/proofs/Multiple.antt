-- The multiple of the divisor that has six terms.
use Rattle.std.proofs.Common.{◌≡◌, ℕ, zero, suc, ◌+◌, ◌*◌, ◌-◌, ◌^◌, ◌<◌, ◌≤◌, inl, inr, bit_xor, refl, sym, ap, ap₂, subst, ◌∙◌, arith}
use Rattle.std.specs.Int.Bits.{xor_assoc, xor_comm, xor_zero_l, xor_block}
use Rattle.std.proofs.Math.Nat.{pow-suc}
use Rattle.std.proofs.lemmas.Nat.{pow-add, pow_pos}
use Rattle.std.proofs.lemmas.Bool.{cases_lt}
use Rattle.zarrs_crc32c.specs.Checksum.{after_bit, after_bits}
use Rattle.zarrs_crc32c.specs.Quotient.{sum_of_five, SixTerms}
use Rattle.zarrs_crc32c.proofs.Registers.{bit_linear, linear, bits_more, zeros_fall}

-- sums of sums, in another order
pub swapped : (a b c d : ℕ) → bit_xor (bit_xor a b) (bit_xor c d) ≡ bit_xor (bit_xor a c) (bit_xor b d)
swapped a b c d =
    xor_assoc a b (bit_xor c d)
    ∙ ap (bit_xor a) (sym (xor_assoc b c d) ∙ ap (λ (x : ℕ). bit_xor x d) (xor_comm b c) ∙ xor_assoc c b d)
    ∙ sym (xor_assoc a c (bit_xor b d))

pub sums_of_five : (a b c d e v w x y z : ℕ) → sum_of_five (bit_xor a v) (bit_xor b w) (bit_xor c x) (bit_xor d y) (bit_xor e z) ≡ bit_xor (sum_of_five a b c d e) (sum_of_five v w x y z)
sums_of_five a b c d e v w x y z =
    ap (λ (n : ℕ). bit_xor (bit_xor (bit_xor n (bit_xor c x)) (bit_xor d y)) (bit_xor e z)) (swapped a v b w)
    ∙ ap (λ (n : ℕ). bit_xor (bit_xor n (bit_xor d y)) (bit_xor e z)) (swapped (bit_xor a b) (bit_xor v w) c x)
    ∙ ap (λ (n : ℕ). bit_xor n (bit_xor e z)) (swapped (bit_xor (bit_xor a b) c) (bit_xor (bit_xor v w) x) d y)
    ∙ swapped (bit_xor (bit_xor (bit_xor a b) c) d) (bit_xor (bit_xor (bit_xor v w) x) y) e z

-- what the five lower terms make of a register
lower : ℕ → ℕ
lower a = sum_of_five a (after_bits 224 a) (after_bits 624 a) (after_bits 864 a) (after_bits 2304 a)

-- the last bit's step may be made first
bit_first : (n a : ℕ) → after_bits n (after_bit a) ≡ after_bit (after_bits n a)
unfolding after_bits
bit_first n a = sym (bits_more 1 n a) ∙ ap (λ (k : ℕ). after_bits k a) (let e : 1 + n ≡ n + 1 = omega arith in e) ∙ bits_more n 1 a

five_bit : (a b c d e : ℕ) → after_bit (sum_of_five a b c d e) ≡ sum_of_five (after_bit a) (after_bit b) (after_bit c) (after_bit d) (after_bit e)
five_bit a b c d e =
    bit_linear (bit_xor (bit_xor (bit_xor a b) c) d) e
    ∙ ap (λ (x : ℕ). bit_xor x (after_bit e)) (bit_linear (bit_xor (bit_xor a b) c) d)
    ∙ ap (λ (x : ℕ). bit_xor (bit_xor x (after_bit d)) (after_bit e)) (bit_linear (bit_xor a b) c)
    ∙ ap (λ (x : ℕ). bit_xor (bit_xor (bit_xor x (after_bit c)) (after_bit d)) (after_bit e)) (bit_linear a b)

pub five_linear : (n a b c d e : ℕ) → after_bits n (sum_of_five a b c d e) ≡ sum_of_five (after_bits n a) (after_bits n b) (after_bits n c) (after_bits n d) (after_bits n e)
five_linear n a b c d e =
    linear n (bit_xor (bit_xor (bit_xor a b) c) d) e
    ∙ ap (λ (x : ℕ). bit_xor x (after_bits n e)) (linear n (bit_xor (bit_xor a b) c) d)
    ∙ ap (λ (x : ℕ). bit_xor (bit_xor x (after_bits n d)) (after_bits n e)) (linear n (bit_xor a b) c)
    ∙ ap (λ (x : ℕ). bit_xor (bit_xor (bit_xor x (after_bits n c)) (after_bits n d)) (after_bits n e)) (linear n a b)

lower_bit : (a : ℕ) → lower (after_bit a) ≡ after_bit (lower a)
unfolding lower
lower_bit a =
    ap (λ (x : ℕ). sum_of_five (after_bit a) x (after_bits 624 (after_bit a)) (after_bits 864 (after_bit a)) (after_bits 2304 (after_bit a))) (bit_first 224 a)
    ∙ ap (λ (x : ℕ). sum_of_five (after_bit a) (after_bit (after_bits 224 a)) x (after_bits 864 (after_bit a)) (after_bits 2304 (after_bit a))) (bit_first 624 a)
    ∙ ap (λ (x : ℕ). sum_of_five (after_bit a) (after_bit (after_bits 224 a)) (after_bit (after_bits 624 a)) x (after_bits 2304 (after_bit a))) (bit_first 864 a)
    ∙ ap (sum_of_five (after_bit a) (after_bit (after_bits 224 a)) (after_bit (after_bits 624 a)) (after_bit (after_bits 864 a))) (bit_first 2304 a)
    ∙ sym (five_bit a (after_bits 224 a) (after_bits 624 a) (after_bits 864 a) (after_bits 2304 a))

lower_both : (a b : ℕ) → lower (bit_xor a b) ≡ bit_xor (lower a) (lower b)
unfolding lower
lower_both a b =
    ap (λ (x : ℕ). sum_of_five (bit_xor a b) x (after_bits 624 (bit_xor a b)) (after_bits 864 (bit_xor a b)) (after_bits 2304 (bit_xor a b))) (linear 224 a b)
    ∙ ap (λ (x : ℕ). sum_of_five (bit_xor a b) (bit_xor (after_bits 224 a) (after_bits 224 b)) x (after_bits 864 (bit_xor a b)) (after_bits 2304 (bit_xor a b))) (linear 624 a b)
    ∙ ap (λ (x : ℕ). sum_of_five (bit_xor a b) (bit_xor (after_bits 224 a) (after_bits 224 b)) (bit_xor (after_bits 624 a) (after_bits 624 b)) x (after_bits 2304 (bit_xor a b))) (linear 864 a b)
    ∙ ap (sum_of_five (bit_xor a b) (bit_xor (after_bits 224 a) (after_bits 224 b)) (bit_xor (after_bits 624 a) (after_bits 624 b)) (bit_xor (after_bits 864 a) (after_bits 864 b))) (linear 2304 a b)
    ∙ sums_of_five a (after_bits 224 a) (after_bits 624 a) (after_bits 864 a) (after_bits 2304 a) b (after_bits 224 b) (after_bits 624 b) (after_bits 864 b) (after_bits 2304 b)

-- the six terms of a register add up to nothing
abbrev Closes : ℕ → Type 0
Closes a = after_bits 3344 a ≡ lower a

-- computed for one register, of which all others are made
highest_closes : Closes (2 ^ 31)
unfolding after_bits lower
highest_closes = refl

nothing_closes : Closes 0
unfolding after_bits lower
nothing_closes = refl

bit_closes : (a : ℕ) → Closes a → Closes (after_bit a)
bit_closes a h = bit_first 3344 a ∙ ap after_bit h ∙ sym (lower_bit a)

bits_close : (n a : ℕ) → Closes a → Closes (after_bits n a)
unfolding after_bits
bits_close zero a h = h
bits_close (suc n) a h = bits_close n (after_bit a) (bit_closes a h)

both_close : (a b : ℕ) → Closes a → Closes b → Closes (bit_xor a b)
both_close a b h k = linear 3344 a b ∙ ap₂ bit_xor h k ∙ sym (lower_both a b)

-- the registers of one bit, the highest first
one_closes : (n k : ℕ) → n + k ≡ 31 → Closes (2 ^ k)
one_closes n k e =
    subst Closes (ap (λ (x : ℕ). after_bits n x) (ap (λ (x : ℕ). 2 ^ x) (let f : 31 ≡ k + n = omega (arith, e) in f) ∙ pow-add 2 k n) ∙ zeros_fall n (2 ^ k)) (bits_close n (2 ^ 31) highest_closes)

-- a number is its highest bit and the rest
highest_apart : (n rest : ℕ) → rest < 2 ^ n → 2 ^ n + rest ≡ bit_xor (2 ^ n) rest
highest_apart n rest l =
    (let e : 2 ^ n + rest ≡ 1 * 2 ^ n + rest = omega arith in e)
    ∙ ap (λ (x : ℕ). 1 * 2 ^ n + x) (sym (xor_zero_l rest))
    ∙ sym (xor_block n 1 0 0 rest (pow_pos n) l)
    ∙ ap₂ bit_xor (let e : 1 * 2 ^ n + 0 ≡ 2 ^ n = omega arith in e) (let e : 0 * 2 ^ n + rest ≡ rest = omega arith in e)

small_closes : (n a : ℕ) → n ≤ 32 → a < 2 ^ n → Closes a
small_closes zero a h l = subst Closes (let e : 0 ≡ a = omega arith in e) nothing_closes
small_closes (suc n) a h l =
    elim (cases_lt a (2 ^ n)) [
      | inl below ↦ small_closes n a (omega arith) below
      | inr above ↦
          let rest : ℕ = a - 2 ^ n in
          let small : rest < 2 ^ n = omega (arith, pow-suc 2 n, l, above) in
          subst Closes (sym (highest_apart n rest small) ∙ (let e : 2 ^ n + rest ≡ a = omega (arith, above) in e))
          (both_close (2 ^ n) rest (one_closes (31 - n) n (omega arith)) (small_closes n rest (omega arith) small))
    ]

pub six_terms : SixTerms
unfolding lower
six_terms register l = small_closes 32 register (omega arith) l
