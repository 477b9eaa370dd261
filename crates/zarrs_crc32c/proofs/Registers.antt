-- A register that moves is linear, so bytes can be taken in by themselves.
use Rattle.std.proofs.Common.{◌≡◌, ℕ, zero, suc, ◌+◌, ◌*◌, ◌/◌, ◌%◌, ◌^◌, ◌<◌, ◌==◌, if◌then◌else◌, bit_and, bit_xor, All, List, [], ◌∷◌, ◌++◌, length, refl, sym, ap, ◌∙◌, arith}
use Rattle.std.specs.Int.{w64, from_le_bytes}
use Rattle.std.specs.Int.Bits.{xor_assoc, xor_comm, xor_self, xor_zero_r, xor_block, xor_shr, xor_mod}
use Rattle.std.proofs.Math.Nat.{pow-suc, mul_assoc}
use Rattle.std.proofs.lemmas.Nat.{shr_split, shr-shr, mod_below, and_mask}
use Rattle.std.proofs.lemmas.List.Elements.{All-head, All-tail}
use Rattle.zarrs_crc32c.specs.Checksum.{castagnoli, after_bit, after_bits, after_byte, after_bytes}

-- what a register becomes whose lowest bit and rest are these
abbrev pub moved : ℕ → ℕ → ℕ
moved bit rest = if bit == 1 then bit_xor rest castagnoli else rest

-- where two bits and two rests are taken together
swap_last : (a b p : ℕ) → bit_xor (bit_xor a b) p ≡ bit_xor (bit_xor a p) b
swap_last a b p = xor_assoc a b p ∙ ap (bit_xor a) (xor_comm b p) ∙ sym (xor_assoc a p b)

cancel : (a b p : ℕ) → bit_xor a b ≡ bit_xor (bit_xor a p) (bit_xor b p)
cancel a b p =
    ap (bit_xor a) (sym (ap (bit_xor b) (xor_self p) ∙ xor_zero_r b) ∙ sym (xor_assoc b p p) ∙ xor_comm (bit_xor b p) p)
    ∙ sym (xor_assoc a p (bit_xor b p))

both_moved : (m n a b : ℕ) → m < 2 → n < 2 → moved (bit_xor m n) (bit_xor a b) ≡ bit_xor (moved m a) (moved n b)
both_moved zero zero a b l k = refl
both_moved zero (suc zero) a b l k = xor_assoc a b castagnoli
both_moved (suc zero) zero a b l k = swap_last a b castagnoli
both_moved (suc zero) (suc zero) a b l k = cancel a b castagnoli
both_moved zero (suc (suc n)) a b l k = absurd (omega arith)
both_moved (suc zero) (suc (suc n)) a b l k = absurd (omega arith)
both_moved (suc (suc m)) n a b l k = absurd (omega arith)

pub bit_linear : (a b : ℕ) → after_bit (bit_xor a b) ≡ bit_xor (after_bit a) (after_bit b)
bit_linear a b =
    ap (λ (bit : ℕ). moved bit (bit_xor a b / 2)) (xor_mod a b 1)
    ∙ ap (moved (bit_xor (a % 2) (b % 2))) (xor_shr a b 1)
    ∙ both_moved (a % 2) (b % 2) (a / 2) (b / 2) (mod_below a 2 (omega arith)) (mod_below b 2 (omega arith))

pub linear : (n a b : ℕ) → after_bits n (bit_xor a b) ≡ bit_xor (after_bits n a) (after_bits n b)
unfolding after_bits
linear zero a b = refl
linear (suc n) a b = ap (after_bits n) (bit_linear a b) ∙ linear n (after_bit a) (after_bit b)

-- a number of bits and then more
pub bits_more : (m n a : ℕ) → after_bits (m + n) a ≡ after_bits n (after_bits m a)
unfolding after_bits
bits_more zero n a = ap (λ (k : ℕ). after_bits k a) (let e : zero + n ≡ n = omega arith in e)
bits_more (suc m) n a = ap (λ (k : ℕ). after_bits k a) (let e : suc m + n ≡ suc (m + n) = omega arith in e) ∙ bits_more m n (after_bit a)

even_moved : (a : ℕ) → after_bit (a * 2) ≡ a
even_moved a =
    ap (λ (bit : ℕ). moved bit (a * 2 / 2)) (let e : a * 2 % 2 ≡ 0 = omega arith in e)
    ∙ (let e : a * 2 / 2 ≡ a = omega arith in e)

-- zeros fall out
pub zeros_fall : (n a : ℕ) → after_bits n (a * 2 ^ n) ≡ a
unfolding after_bits
zeros_fall zero a = omega arith
zeros_fall (suc n) a =
    ap (λ (x : ℕ). after_bits n (after_bit x)) (ap (λ (x : ℕ). a * x) (pow-suc 2 n) ∙ sym (mul_assoc a (2 ^ n) 2))
    ∙ ap (after_bits n) (even_moved (a * 2 ^ n)) ∙ zeros_fall n a

-- a number is its lowest byte and the rest
pub split_byte : (a : ℕ) → a ≡ bit_xor (a % 256) (a / 256 * 2 ^ 8)
split_byte a =
    sym (shr_split a 8)
    ∙ ap (λ (x : ℕ). x * 2 ^ 8 + a % 2 ^ 8) (sym (xor_zero_r (a / 256)))
    ∙ sym (xor_block 8 (a / 256) 0 0 (a % 256) (omega arith) (mod_below a 256 (omega arith)))
    ∙ ap (λ (x : ℕ). bit_xor x (0 * 2 ^ 8 + a % 256)) (let e : a / 256 * 2 ^ 8 + 0 ≡ a / 256 * 2 ^ 8 = omega arith in e)
    ∙ ap (bit_xor (a / 256 * 2 ^ 8)) (let e : 0 * 2 ^ 8 + a % 256 ≡ a % 256 = omega arith in e)
    ∙ xor_comm (a / 256 * 2 ^ 8) (a % 256)

-- so its lowest byte is moved by itself, and the rest by a byte less
pub byte_apart : (n a : ℕ) → after_bits (8 + n) a ≡ bit_xor (after_bits (8 + n) (a % 256)) (after_bits n (a / 256))
byte_apart n a =
    ap (after_bits (8 + n)) (split_byte a)
    ∙ linear (8 + n) (a % 256) (a / 256 * 2 ^ 8)
    ∙ ap (bit_xor (after_bits (8 + n) (a % 256))) (bits_more 8 n (a / 256 * 2 ^ 8) ∙ ap (after_bits n) (zeros_fall 8 (a / 256)))

-- a byte, by the table's row 0
pub one_byte : (a : ℕ) → after_bits 8 a ≡ bit_xor (after_bits 8 (a % 256)) (a / 256)
unfolding after_bits
one_byte a = byte_apart 0 a

-- the number that bytes spell, the lowest first
pub spelled : List ℕ → ℕ
spelled [] = 0
spelled (byte ∷ bytes) = byte + 256 * spelled bytes

-- the lowest byte that is spelled and the rest have no bit in common
first_spelled : (byte rest : ℕ) → byte < 256 → byte + 256 * rest ≡ bit_xor byte (rest * 2 ^ 8)
first_spelled byte rest l =
    (let e : byte + 256 * rest ≡ rest * 2 ^ 8 + byte = omega arith in e)
    ∙ ap (λ (x : ℕ). x * 2 ^ 8 + byte) (sym (xor_zero_r rest))
    ∙ sym (xor_block 8 rest 0 0 byte (omega arith) l)
    ∙ ap (λ (x : ℕ). bit_xor x (0 * 2 ^ 8 + byte)) (let e : rest * 2 ^ 8 + 0 ≡ rest * 2 ^ 8 = omega arith in e)
    ∙ ap (bit_xor (rest * 2 ^ 8)) (let e : 0 * 2 ^ 8 + byte ≡ byte = omega arith in e)
    ∙ xor_comm (rest * 2 ^ 8) byte

-- so a byte is taken in before the rest, which is moved by it
byte_taken : (register byte rest : ℕ) → byte < 256 → after_bits 8 (bit_xor register (byte + 256 * rest)) ≡ bit_xor (after_byte register byte) rest
byte_taken register byte rest l =
    ap (λ (x : ℕ). after_bits 8 (bit_xor register x)) (first_spelled byte rest l)
    ∙ ap (after_bits 8) (sym (xor_assoc register byte (rest * 2 ^ 8)))
    ∙ linear 8 (bit_xor register byte) (rest * 2 ^ 8)
    ∙ ap (bit_xor (after_byte register byte)) (zeros_fall 8 rest)

-- bytes are taken in one by one, or all together as the number that they spell
pub together : (register : ℕ) (bytes : List ℕ) → All (λ byte. byte < 256) bytes → after_bytes register bytes ≡ after_bits (8 * length bytes) (bit_xor register (spelled bytes))
unfolding after_bits spelled
together register [] all = sym (xor_zero_r register)
together register (byte ∷ bytes) all =
    let is_byte = λ (x : ℕ). x < 256 in
    together (after_byte register byte) bytes (All-tail is_byte byte bytes all)
    ∙ ap (after_bits (8 * length bytes)) (sym (byte_taken register byte (spelled bytes) (All-head is_byte byte bytes all)))
    ∙ sym (bits_more 8 (8 * length bytes) (bit_xor register (spelled (byte ∷ bytes))))
    ∙ ap (λ (n : ℕ). after_bits n (bit_xor register (spelled (byte ∷ bytes)))) (let e : 8 + 8 * length bytes ≡ 8 * suc (length bytes) = omega arith in e)

-- a byte of a number more
one_more : (total at n taken : ℕ) → bit_xor taken (after_bits (8 + n) (total / 2 ^ at)) ≡ bit_xor (bit_xor taken (after_bits (8 + n) (bit_and (total / 2 ^ at) 255))) (after_bits n (total / 2 ^ (at + 8)))
one_more total at n taken =
    ap (bit_xor taken) (byte_apart n (total / 2 ^ at))
    ∙ ap (λ (x : ℕ). bit_xor taken (bit_xor (after_bits (8 + n) x) (after_bits n (total / 2 ^ at / 256)))) (sym (and_mask (total / 2 ^ at) 8))
    ∙ ap (λ (x : ℕ). bit_xor taken (bit_xor (after_bits (8 + n) (bit_and (total / 2 ^ at) 255)) (after_bits n x))) (shr-shr total at 8)
    ∙ sym (xor_assoc taken (after_bits (8 + n) (bit_and (total / 2 ^ at) 255)) (after_bits n (total / 2 ^ (at + 8))))

nothing_left : (x : ℕ) → x < 2 ^ 64 → after_bits 0 (x / 2 ^ 64) ≡ 0
unfolding after_bits
nothing_left x l = omega arith

-- the bytes of a word, each moved by itself
pub by_bytes : (x : ℕ) → x < 2 ^ 64
    → bit_xor (bit_xor (bit_xor (bit_xor (bit_xor (bit_xor (bit_xor (after_bits 64 (bit_and x 255)) (after_bits 56 (bit_and (x / 2 ^ 8) 255))) (after_bits 48 (bit_and (x / 2 ^ 16) 255))) (after_bits 40 (bit_and (x / 2 ^ 24) 255))) (after_bits 32 (bit_and (x / 2 ^ 32) 255))) (after_bits 24 (bit_and (x / 2 ^ 40) 255))) (after_bits 16 (bit_and (x / 2 ^ 48) 255))) (after_bits 8 (bit_and (x / 2 ^ 56) 255))
    ≡ after_bits 64 x
by_bytes x l =
    let first : ℕ = after_bits 64 (bit_and x 255) in
    let t2 : ℕ = bit_xor first (after_bits 56 (bit_and (x / 2 ^ 8) 255)) in
    let t3 : ℕ = bit_xor t2 (after_bits 48 (bit_and (x / 2 ^ 16) 255)) in
    let t4 : ℕ = bit_xor t3 (after_bits 40 (bit_and (x / 2 ^ 24) 255)) in
    let t5 : ℕ = bit_xor t4 (after_bits 32 (bit_and (x / 2 ^ 32) 255)) in
    let t6 : ℕ = bit_xor t5 (after_bits 24 (bit_and (x / 2 ^ 40) 255)) in
    let t7 : ℕ = bit_xor t6 (after_bits 16 (bit_and (x / 2 ^ 48) 255)) in
    let t8 : ℕ = bit_xor t7 (after_bits 8 (bit_and (x / 2 ^ 56) 255)) in
    let one : after_bits 64 x ≡ bit_xor first (after_bits 56 (x / 2 ^ 8)) = byte_apart 56 x ∙ ap (λ (y : ℕ). bit_xor (after_bits 64 y) (after_bits 56 (x / 2 ^ 8))) (sym (and_mask x 8)) in
    let none : after_bits 0 (x / 2 ^ 64) ≡ 0 = nothing_left x l in
    sym (one ∙ one_more x 8 48 first ∙ one_more x 16 40 t2 ∙ one_more x 24 32 t3 ∙ one_more x 32 24 t4 ∙ one_more x 40 16 t5 ∙ one_more x 48 8 t6 ∙ one_more x 56 0 t7
    ∙ ap (bit_xor t8) none ∙ xor_zero_r t8)

-- bytes and then more
pub after_both : (register : ℕ) (front back : List ℕ) → after_bytes register (front ++ back) ≡ after_bytes (after_bytes register front) back
after_both register [] back = refl
after_both register (byte ∷ front) back = after_both (after_byte register byte) front back

-- eight bytes, as the number that they spell
pub eight_spell : (bytes : List ℕ) → length bytes ≡ 8 → from_le_bytes w64 bytes ≡ spelled bytes
unfolding spelled
eight_spell (a ∷ b ∷ c ∷ d ∷ e ∷ f ∷ g ∷ h ∷ []) l = omega arith
eight_spell bytes l = absurd (omega arith)
