-- Registers after bytes to which something is added.
use Rattle.std.proofs.Common.{◌≡◌, ℕ, zero, suc, ◌+◌, ◌*◌, ◌<◌, ◌≤◌, bit_xor, List, [], ◌∷◌, length, drop, get_or, refl, sym, ap, ◌∙◌, arith}
use Rattle.std.specs.Simd.Lanes.{zip2}
use Rattle.std.specs.Int.Bits.{xor_assoc, xor_zero_l, xor_zero_r}
use Rattle.zarrs_crc32c.specs.Checksum.{after_bits, after_byte, after_bytes}
use Rattle.zarrs_crc32c.specs.Quotient.{after_sums}
use Rattle.zarrs_crc32c.proofs.Registers.{linear, bits_more}
use Rattle.zarrs_crc32c.proofs.Multiple.{swapped}

pub byte_linear : (a b x y : ℕ) → after_byte (bit_xor a b) (bit_xor x y) ≡ bit_xor (after_byte a x) (after_byte b y)
byte_linear a b x y = ap (after_bits 8) (swapped a b x y) ∙ linear 8 (bit_xor a x) (bit_xor b y)

pub bytes_linear : (first second : ℕ) (xs ys : List ℕ) → length xs ≡ length ys → after_bytes (bit_xor first second) (zip2 bit_xor xs ys) ≡ bit_xor (after_bytes first xs) (after_bytes second ys)
bytes_linear first second [] [] e = refl
bytes_linear first second [] (y ∷ ys) e = absurd (omega (arith, e))
bytes_linear first second (x ∷ xs) [] e = absurd (omega (arith, e))
bytes_linear first second (x ∷ xs) (y ∷ ys) e =
    ap (λ (register : ℕ). after_bytes register (zip2 bit_xor xs ys)) (byte_linear first second x y)
    ∙ bytes_linear (after_byte first x) (after_byte second y) xs ys (omega (arith, e))

-- the register after so many bytes that are 0, to each of which something is added
abbrev pub after_alone : ℕ → (ℕ → ℕ) → ℕ → ℕ
after_alone register more zero = register
after_alone register more (suc count) = after_alone (after_byte register (more 0)) (λ place. more (suc place)) count

pub sums_same : (register : ℕ) (f g : ℕ → ℕ) (bytes : List ℕ) → ((place : ℕ) → f place ≡ g place) → after_sums register f bytes ≡ after_sums register g bytes
sums_same register f g [] each = refl
sums_same register f g (byte ∷ bytes) each =
    ap (λ (x : ℕ). after_sums (after_byte register (bit_xor byte x)) (λ place. f (suc place)) bytes) (each 0)
    ∙ sums_same (after_byte register (bit_xor byte (g 0))) (λ place. f (suc place)) (λ place. g (suc place)) bytes (λ place. each (suc place))

-- what is added moves by itself
pub sums_apart : (r s : ℕ) (f g h : ℕ → ℕ) (bytes : List ℕ) → ((place : ℕ) → h place ≡ bit_xor (f place) (g place))
    → after_sums (bit_xor r s) h bytes ≡ bit_xor (after_sums r f bytes) (after_alone s g (length bytes))
sums_apart r s f g h [] each = refl
sums_apart r s f g h (byte ∷ bytes) each =
    ap (λ (x : ℕ). after_sums x (λ place. h (suc place)) bytes)
    (ap (after_byte (bit_xor r s)) (ap (bit_xor byte) (each 0) ∙ sym (xor_assoc byte (f 0) (g 0))) ∙ byte_linear r s (bit_xor byte (f 0)) (g 0))
    ∙ sums_apart (after_byte r (bit_xor byte (f 0))) (after_byte s (g 0)) (λ place. f (suc place)) (λ place. g (suc place)) (λ place. h (suc place)) bytes (λ place. each (suc place))

pub alone_apart : (r s : ℕ) (f g h : ℕ → ℕ) (count : ℕ) → ((place : ℕ) → h place ≡ bit_xor (f place) (g place))
    → after_alone (bit_xor r s) h count ≡ bit_xor (after_alone r f count) (after_alone s g count)
alone_apart r s f g h zero each = refl
alone_apart r s f g h (suc count) each =
    ap (λ (x : ℕ). after_alone x (λ place. h (suc place)) count) (ap (after_byte (bit_xor r s)) (each 0) ∙ byte_linear r s (f 0) (g 0))
    ∙ alone_apart (after_byte r (f 0)) (after_byte s (g 0)) (λ place. f (suc place)) (λ place. g (suc place)) (λ place. h (suc place)) count (λ place. each (suc place))

pub alone_still : (register count : ℕ) → after_alone register (λ place. 0) count ≡ after_bits (8 * count) register
unfolding after_bits
alone_still register zero = refl
alone_still register (suc count) =
    ap (λ (x : ℕ). after_alone (after_bits 8 x) (λ place. 0) count) (xor_zero_r register)
    ∙ alone_still (after_bits 8 register) count
    ∙ sym (bits_more 8 (8 * count) register)
    ∙ ap (λ (n : ℕ). after_bits n register) (let e : 8 + 8 * count ≡ 8 * suc count = omega arith in e)

-- where nothing is added
pub sums_none : (register : ℕ) (f : ℕ → ℕ) (bytes : List ℕ) → ((place : ℕ) → f place ≡ 0) → after_sums register f bytes ≡ after_bytes register bytes
sums_none register f [] each = refl
sums_none register f (byte ∷ bytes) each =
    ap (λ (x : ℕ). after_sums (after_byte register x) (λ place. f (suc place)) bytes) (ap (bit_xor byte) (each 0) ∙ xor_zero_r byte)
    ∙ sums_none (after_byte register byte) (λ place. f (suc place)) bytes (λ place. each (suc place))

-- the first bytes are those, with what is added to them
pub sums_taken : (sums bytes : List ℕ) (register : ℕ) (f g : ℕ → ℕ) → ((place : ℕ) → place < length sums → get_or sums place 0 ≡ bit_xor (get_or bytes place 0) (f place)) → length sums ≤ length bytes
    → ((place : ℕ) → f (length sums + place) ≡ g place) → after_sums register f bytes ≡ after_sums (after_bytes register sums) g (drop (length sums) bytes)
sums_taken [] bytes register f g each long behind = sums_same register f g bytes (λ place. ap f (let e : place ≡ 0 + place = omega arith in e) ∙ behind place)
sums_taken (sum ∷ sums) [] register f g each long behind = absurd (omega (arith, long))
sums_taken (sum ∷ sums) (byte ∷ bytes) register f g each long behind =
    ap (λ (x : ℕ). after_sums (after_byte register x) (λ place. f (suc place)) bytes) (sym (each 0 (omega arith)))
    ∙ sums_taken sums bytes (after_byte register sum) (λ place. f (suc place)) g (λ place l. each (suc place) (omega (arith, l))) (omega (arith, long))
    (λ place. ap f (let e : suc (length sums + place) ≡ suc (length sums) + place = omega arith in e) ∙ behind place)

-- ---- something at one place alone

abbrev pub one_at : ℕ → ℕ → ℕ → ℕ
one_at zero number zero = number
one_at zero number (suc place) = 0
one_at (suc at) number zero = 0
one_at (suc at) number (suc place) = one_at at number place

pub one_there : (at number : ℕ) → one_at at number at ≡ number
one_there zero number = refl
one_there (suc at) number = one_there at number

pub one_elsewhere : (at number place : ℕ) → (place ≡ at → ⊥) → one_at at number place ≡ 0
one_elsewhere zero number zero differ = absurd (differ refl)
one_elsewhere zero number (suc place) differ = refl
one_elsewhere (suc at) number zero differ = refl
one_elsewhere (suc at) number (suc place) differ = one_elsewhere at number place (λ e. differ (ap suc e))

alone_first : (number count : ℕ) → after_alone 0 (one_at 0 number) (suc count) ≡ after_bits (8 * suc count) number
alone_first number count =
    ap (λ (x : ℕ). after_alone (after_bits 8 x) (λ place. 0) count) (xor_zero_l number)
    ∙ alone_still (after_bits 8 number) count
    ∙ sym (bits_more 8 (8 * count) number)
    ∙ ap (λ (n : ℕ). after_bits n number) (let e : 8 + 8 * count ≡ 8 * suc count = omega arith in e)

nothing_taken : after_byte 0 0 ≡ 0
unfolding after_bits
nothing_taken = refl

pub alone_one : (at number count total : ℕ) → total ≡ at + suc count → after_alone 0 (one_at at number) total ≡ after_bits (8 * suc count) number
alone_one zero number count total e = ap (after_alone 0 (one_at zero number)) (let f : total ≡ suc count = omega (arith, e) in f) ∙ alone_first number count
alone_one (suc at) number count total e =
    ap (after_alone 0 (one_at (suc at) number)) (let f : total ≡ suc (at + suc count) = omega (arith, e) in f)
    ∙ ap (λ (x : ℕ). after_alone x (one_at at number) (at + suc count)) nothing_taken
    ∙ alone_one at number count (at + suc count) refl
