-- Bits of bytes that are read by words.
use Rattle.std.proofs.Common.{◌≡◌, ℕ, ◌+◌, ◌-◌, ◌*◌, ◌/◌, ◌%◌, ◌^◌, ◌<◌, ◌≤◌, List, ◌++◌, Bool, true, false, length, take, drop, replicate, get_or, arith, ap, ap₂, sym, ◌∙◌, inl, inr, lit<}
use Rattle.std.specs.Prelude.{bit_or, bit_and, bit_xor}
use Rattle.std.specs.Int.Bits.{xor_zero_r}
use Rattle.std.proofs.lemmas.Bool.{cases_lt}
use Rattle.std.proofs.lemmas.List.{take_at, drop_at, drop-drop, drop-take, take-take, length-drop, take-append-le, take-replicate, drop_more}
use Rattle.std.proofs.lemmas.List.Concat.{flat_map-append}
use Rattle.std.proofs.lemmas.Nat.{shr_below, shr_high, one_shl, and_mask, xor_block, pow_pos, pow_below, pow-add}
use Rattle.std.proofs.Math.Nat.{mod-eq_of_lt, add-mul-mod_self_right, pow-le-pow_right, div-eq_of_lt}
use Rattle.zarrs_packbits.specs.Bits.{low_bits, bits_of, field}
use Rattle.zarrs_packbits.specs.KeptBits.{full_component, top_of, sign_weight}
use Rattle.zarrs_packbits.proofs.FieldLemmas.{field_more, low_bits_ones}
use Rattle.zarrs_packbits.proofs.LowBits.{get_or-low_bits, length-low_bits, length-bits_of, low_bits-split, low_bits-cat, low_bits-mod, bits_of-drop, bits_of-take, joined_is, low_bits-zero}

pub low_bits-take : (n m v : ℕ) → n ≤ m → take n (low_bits m v) ≡ low_bits n v
low_bits-take n m v h =
    ap (λ k. take n (low_bits k v)) (let e : m ≡ n + (m - n) = omega arith in e)
    ∙ ap (take n) (low_bits-split n (m - n) v)
    ∙ take_at (low_bits n v) (low_bits (m - n) (v / 2 ^ n)) n (length-low_bits n v)

pub low_bits-low : (n m v : ℕ) → n ≤ m → low_bits n (v % 2 ^ m) ≡ low_bits n v
low_bits-low n m v h =
    sym (low_bits-take n m (v % 2 ^ m) h) ∙ ap (take n) (low_bits-mod m v) ∙ low_bits-take n m v h

-- the lowest of them alone, as a mask keeps them
pub masked : (word count : ℕ) → count < 64 → bit_and word (1 * 2 ^ count % 2 ^ 64 - 1) ≡ word % 2 ^ count
masked word count h = ap (λ n. bit_and word (n - 1)) (one_shl count 64 h) ∙ and_mask word count

pub last_bits : (bytes zeros : List ℕ) (word : ℕ) → length bytes ≤ 8 → low_bits 64 word ≡ bits_of (bytes ++ zeros) → low_bits (8 * length bytes) word ≡ bits_of bytes
last_bits bytes zeros word h e =
    sym (low_bits-take (8 * length bytes) 64 word (omega arith))
    ∙ ap (take (8 * length bytes)) (e ∙ flat_map-append (low_bits 8) bytes zeros)
    ∙ take_at (bits_of bytes) (bits_of zeros) (8 * length bytes) (length-bits_of bytes)

pub word_field : (bytes : List ℕ) (start n word : ℕ) → n ≤ 64 → start + 8 ≤ length bytes → low_bits 64 word ≡ bits_of (take 8 (drop start bytes)) → low_bits n word ≡ field (8 * start) n (bits_of bytes)
word_field bytes start n word h l e =
    sym (low_bits-take n 64 word h)
    ∙ ap (take n) (e ∙ bits_of-take 8 (drop start bytes) (omega (arith, length-drop start bytes)))
    ∙ take-take n 64 (bits_of (drop start bytes)) h
    ∙ ap (take n) (bits_of-drop start bytes)

pub last_field : (bytes : List ℕ) (start n word : ℕ) → start ≤ length bytes → 8 * start + n ≤ 8 * length bytes → low_bits (8 * length (drop start bytes)) word ≡ bits_of (drop start bytes) → low_bits n word ≡ field (8 * start) n (bits_of bytes)
last_field bytes start n word h l e =
    sym (low_bits-take n (8 * length (drop start bytes)) word (omega (arith, length-drop start bytes)))
    ∙ ap (take n) (e ∙ bits_of-drop start bytes)

-- bits within a word
pub field_within : (bits : List ℕ) (at shift count word : ℕ) → low_bits (shift + count) word ≡ field at (shift + count) bits → low_bits count (word / 2 ^ shift % 2 ^ count) ≡ field (at + shift) count bits
field_within bits at shift count word e =
    low_bits-mod count (word / 2 ^ shift)
    ∙ sym (drop_at (low_bits shift word) (low_bits count (word / 2 ^ shift)) shift (length-low_bits shift word))
    ∙ ap (drop shift) (sym (low_bits-split shift count word) ∙ e)
    ∙ drop-take shift count (drop at bits)
    ∙ ap (take count) (drop-drop shift at bits)

-- bits that end beyond it
pub field_beyond : (bits : List ℕ) (at shift count word high : ℕ) → shift ≤ 8 → count ≤ 64 → 64 ≤ shift + count → word < 2 ^ 64 → low_bits 64 word ≡ field at 64 bits → low_bits (shift + count - 64) high ≡ field (at + 64) (shift + count - 64) bits
    → low_bits count (bit_or (high * 2 ^ (64 - shift) % 2 ^ 64) (word / 2 ^ shift) % 2 ^ count) ≡ field (at + shift) count bits
field_beyond bits at shift count word high s c l below e g =
    let f = 64 - shift in
    let m = shift + count - 64 in
    let lo = word / 2 ^ shift in
    let hi = high % 2 ^ shift in
    let whole : 64 ≡ f + shift = omega arith in
    let back : 64 ≡ shift + f = omega arith in
    let small : lo < 2 ^ f = shr_below word f shift (let h : word < 2 ^ (f + shift) = rw (sym whole) below in h) in
    let parts : count ≡ f + m = omega arith in
    let first : low_bits f lo ≡ field (at + shift) f bits
    = sym (low_bits-mod f lo) ∙ field_within bits at shift f word (ap (λ n. low_bits n word) (sym back) ∙ e ∙ ap (λ n. field at n bits) back) in
    let second : low_bits m hi ≡ field (at + shift + f) m bits
    = low_bits-low m shift high (omega arith) ∙ g ∙ ap (λ n. field n m bits) (let d : at + 64 ≡ at + shift + f = omega arith in d) in
    low_bits-mod count (bit_or (high * 2 ^ f % 2 ^ 64) lo)
    ∙ ap (low_bits count) (joined_is f shift high lo (omega arith) small)
    ∙ ap (λ n. low_bits n (hi * 2 ^ f + lo)) parts
    ∙ low_bits-cat f m lo hi small
    ∙ ap (λ (xs : List ℕ). xs ++ low_bits m hi) first
    ∙ ap (λ (xs : List ℕ). field (at + shift) f bits ++ xs) second
    ∙ field_more (at + shift) f m bits
    ∙ ap (λ n. field (at + shift) n bits) (sym parts)

-- the first bits of a byte
pub byte_field : (bytes : List ℕ) (j m : ℕ) → m ≤ 8 → j < length bytes → low_bits m (get_or bytes j 0) ≡ field (8 * j) m (bits_of bytes)
byte_field bytes j m h lt =
    let byte = get_or bytes j 0 in
    let rest = bits_of (drop (j + 1) bytes) in
    sym (low_bits-take m 8 byte h)
    ∙ sym (take-append-le m (low_bits 8 byte) rest (omega (arith, length-low_bits 8 byte)))
    ∙ ap (take m) (sym (ap bits_of (drop_more bytes j 0 lt)) ∙ bits_of-drop j bytes)

-- ---- a component of its kept bits

-- a number whose last bit counts below zero, as the bits of a word
sign_clear : (W k r : ℕ) → k < W → r < 2 ^ k → (bit_xor r (2 ^ k) + (2 ^ W - 2 ^ k)) % 2 ^ W ≡ r
sign_clear W k r h l =
    let flipped : bit_xor r (2 ^ k) ≡ 2 ^ k + r
    = ap₂ bit_xor (let e : r ≡ 0 * 2 ^ k + r = omega arith in e) (let e : 2 ^ k ≡ 1 * 2 ^ k + 0 = omega arith in e)
    ∙ xor_block k 0 1 r 0 l (pow_pos k) ∙ ap (λ n. 1 * 2 ^ k + n) (xor_zero_r r) ∙ (let e : 1 * 2 ^ k + r ≡ 2 ^ k + r = omega arith in e) in
    let wide = pow_below k W h in
    let sum : bit_xor r (2 ^ k) + (2 ^ W - 2 ^ k) ≡ r + 1 * 2 ^ W = omega arith in
    ap (λ n. n % 2 ^ W) sum ∙ add-mul-mod_self_right r 1 (2 ^ W) ∙ mod-eq_of_lt (let e : r < 2 ^ W = omega arith in e)

sign_set : (W k r : ℕ) → k < W → r < 2 ^ k → (bit_xor (2 ^ k + r) (2 ^ k) + (2 ^ W - 2 ^ k)) % 2 ^ W ≡ (2 ^ (W - (k + 1)) - 1) * 2 ^ (k + 1) + (2 ^ k + r)
sign_set W k r h l =
    let flipped : bit_xor (2 ^ k + r) (2 ^ k) ≡ r
    = ap₂ bit_xor (let e : 2 ^ k + r ≡ 1 * 2 ^ k + r = omega arith in e) (let e : 2 ^ k ≡ 1 * 2 ^ k + 0 = omega arith in e)
    ∙ xor_block k 1 1 r 0 l (pow_pos k) ∙ ap (λ n. 0 * 2 ^ k + n) (xor_zero_r r) ∙ (let e : 0 * 2 ^ k + r ≡ r = omega arith in e) in
    let wide = pow_below k W h in
    let q = 2 ^ (W - (k + 1)) in
    let p : 0 < q = pow_pos (W - (k + 1)) in
    let twice : 2 ^ (k + 1) ≡ 2 * 2 ^ k = pow-add 2 k 1 ∙ (let e : 2 ^ k * 2 ^ 1 ≡ 2 * 2 ^ k = omega arith in e) in
    let all : q * 2 ^ (k + 1) ≡ 2 ^ W = sym (pow-add 2 (W - (k + 1)) (k + 1)) ∙ ap (λ n. 2 ^ n) (let e : W - (k + 1) + (k + 1) ≡ W = omega arith in e) in
    let split : q ≡ (q - 1) + 1 = omega arith in
    let less : q * 2 ^ (k + 1) ≡ (q - 1) * 2 ^ (k + 1) + 2 ^ (k + 1) = ap (λ n. n * 2 ^ (k + 1)) split ∙ (let e : ((q - 1) + 1) * 2 ^ (k + 1) ≡ (q - 1) * 2 ^ (k + 1) + 2 ^ (k + 1) = omega arith in e) in
    ap (λ n. (n + (2 ^ W - 2 ^ k)) % 2 ^ W) flipped
    ∙ mod-eq_of_lt (let e : r + (2 ^ W - 2 ^ k) < 2 ^ W = omega arith in e)
    ∙ (let e : r + (2 ^ W - 2 ^ k) ≡ (q - 1) * 2 ^ (k + 1) + (2 ^ k + r) = omega arith in e)

low_bits-ones : (n m : ℕ) → n ≤ m → low_bits n (2 ^ m - 1) ≡ replicate n 1
low_bits-ones n m h = sym (low_bits-take n m (2 ^ m - 1) h) ∙ ap (take n) (low_bits_ones m) ∙ take-replicate n m 1 h

-- what such a number's bits are
pub sign_bits : (W count above x : ℕ) (sign : Bool) → 0 < count → count + above ≤ W → x < 2 ^ count
    → low_bits (count + above) ((bit_xor x (sign_weight sign count) + (2 ^ W - sign_weight sign count)) % 2 ^ W) ≡ low_bits count x ++ replicate above (top_of sign (low_bits count x))
sign_bits W count above x false some fits small =
    let below : x < 2 ^ W = omega (arith, pow-le-pow_right {n = 2} (lit< tt) (let e : count ≤ W = omega arith in e)) in
    ap (low_bits (count + above)) (
    ap (λ n. (n + (2 ^ W - 0)) % 2 ^ W) (xor_zero_r x)
    ∙ ap (λ n. n % 2 ^ W) (let e : x + (2 ^ W - 0) ≡ x + 1 * 2 ^ W = omega arith in e)
    ∙ add-mul-mod_self_right x 1 (2 ^ W)
    ∙ mod-eq_of_lt below
    ∙ (let e : x ≡ 0 * 2 ^ count + x = omega arith in e))
    ∙ low_bits-cat count above x 0 small
    ∙ ap (λ (xs : List ℕ). low_bits count x ++ xs) (low_bits-zero above)
sign_bits W count above x true some fits small =
    let k = count - 1 in
    let is : k + 1 ≡ count = omega arith in
    let twice : 2 ^ count ≡ 2 * 2 ^ k = ap (λ n. 2 ^ n) (sym is) ∙ pow-add 2 k 1 ∙ (let e : 2 ^ k * 2 ^ 1 ≡ 2 * 2 ^ k = omega arith in e) in
    let last : top_of true (low_bits count x) ≡ x / 2 ^ k % 2
    = ap (λ n. get_or (low_bits count x) (n - 1) 0) (length-low_bits count x) ∙ get_or-low_bits count x k (omega arith) in
    elim (cases_lt x (2 ^ k)) [
      | inl l ↦ (let none : x / 2 ^ k % 2 ≡ 0 = ap (λ n. n % 2) (div-eq_of_lt l) in
          ap (low_bits (count + above)) (sign_clear W k x (omega arith) l ∙ (let e : x ≡ 0 * 2 ^ count + x = omega arith in e))
          ∙ low_bits-cat count above x 0 small
          ∙ ap (λ (xs : List ℕ). low_bits count x ++ xs) (low_bits-zero above)
          ∙ ap (λ b. low_bits count x ++ replicate above b) (sym (last ∙ none)))
      | inr g ↦ (let r = x - 2 ^ k in
          let parts : x ≡ 2 ^ k + r = omega arith in
          let one : x / 2 ^ k % 2 ≡ 1
          = ap (λ n. n / 2 ^ k % 2) (let e : x ≡ 1 * 2 ^ k + r = omega arith in e) ∙ ap (λ n. n % 2) (shr_high 1 k r (omega arith)) in
          let big = 2 ^ (W - count) - 1 in
          ap (λ n. low_bits (count + above) ((bit_xor n (2 ^ k) + (2 ^ W - 2 ^ k)) % 2 ^ W)) parts
          ∙ ap (low_bits (count + above)) (sign_set W k r (omega arith) (omega arith))
          ∙ ap (λ n. low_bits (count + above) ((2 ^ (W - n) - 1) * 2 ^ n + (2 ^ k + r))) is
          ∙ ap (λ n. low_bits (count + above) (big * 2 ^ count + n)) (sym parts)
          ∙ low_bits-cat count above x big small
          ∙ ap (λ (xs : List ℕ). low_bits count x ++ xs) (low_bits-ones above (W - count) (omega arith))
          ∙ ap (λ b. low_bits count x ++ replicate above b) (sym (last ∙ one)))
    ]

-- and of the number that stands so much higher, in a word
pub component_is : (W first count above x : ℕ) (sign : Bool) → 0 < count → first + count + above ≤ W → x < 2 ^ count
    → low_bits (first + count + above) ((bit_xor x (sign_weight sign count) + (2 ^ W - sign_weight sign count)) % 2 ^ W * 2 ^ first % 2 ^ W) ≡ full_component first above sign (low_bits count x)
component_is W first count above x sign some fits small =
    let wide = (bit_xor x (sign_weight sign count) + (2 ^ W - sign_weight sign count)) % 2 ^ W in
    low_bits-low (first + count + above) W (wide * 2 ^ first) fits
    ∙ ap (λ n. low_bits n (wide * 2 ^ first)) (let e : first + count + above ≡ first + (count + above) = omega arith in e)
    ∙ ap (low_bits (first + (count + above))) (let e : wide * 2 ^ first ≡ wide * 2 ^ first + 0 = omega arith in e)
    ∙ low_bits-cat first (count + above) 0 wide (pow_pos first)
    ∙ ap (λ (xs : List ℕ). xs ++ low_bits (count + above) wide) (low_bits-zero first)
    ∙ ap (λ (xs : List ℕ). replicate first 0 ++ xs) (sign_bits W count above x sign some (omega arith) small)
