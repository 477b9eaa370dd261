use Rattle.std.proofs.Common.{◌≡◌, ℕ, zero, suc, ◌+◌, ◌-◌, ◌*◌, ◌/◌, ◌%◌, ◌^◌, ◌<◌, ◌≤◌, List, [], ◌∷◌, ◌++◌, length, arith, refl, ap, ◌∙◌, sym}
use Rattle.std.proofs.Common.{replicate}
use Rattle.std.proofs.Math.Nat.{div-eq_of_lt}
use Rattle.std.specs.Int.{bytes_low_first, byte_at, to_le_bytes, w64}
use Rattle.std.proofs.lemmas.Nat.{shr_split, shr_high, pow_pos, pow-add, or_shifted, shl_whole, mod_below}
use Rattle.std.proofs.Math.Nat.{add-mul-mod_self_right, add-mul-div_right, div-div-eq-div-mul, pow-suc}
use Rattle.std.specs.Prelude.{bit_or}
use Rattle.std.proofs.Common.{lit<}
use Rattle.std.proofs.lemmas.List.{append_assoc, get_or_append_left, get_or-append_right, length-append, drop_at, drop_all, drop-drop, take_at, length-take-le, take-append-drop}
use Rattle.std.proofs.Common.{get_or, take, drop}
use Rattle.std.specs.Int.{from_le_bytes}
use Rattle.std.proofs.lemmas.Nat.{le_bytes_8}
use Rattle.std.proofs.Math.Nat.{pow-le-pow_right, mul-le-mul_right, mod-eq_of_lt}
use Rattle.std.proofs.lemmas.List.Concat.{flat_map-append}
use Rattle.zarrs_packbits.specs.Bits.{low_bits, bits_of}

pub length-low_bits : (n v : ℕ) → length (low_bits n v) ≡ n
length-low_bits zero v = refl
length-low_bits (suc n) v = ap suc (length-low_bits n (v / 2))

-- the first bits, and the others
pub low_bits-split : (a b v : ℕ) → low_bits (a + b) v ≡ low_bits a v ++ low_bits b (v / 2 ^ a)
low_bits-split zero b v = ap (λ n. low_bits n v) (let e : 0 + b ≡ b = omega arith in e) ∙ ap (low_bits b) (let e : v ≡ v / 2 ^ 0 = omega arith in e)
low_bits-split (suc a) b v =
    ap (λ n. low_bits n v) (let e : suc a + b ≡ suc (a + b) = omega arith in e)
    ∙ ap (λ ns. v % 2 ∷ ns) (low_bits-split a b (v / 2))
    ∙ ap (λ n. (v % 2 ∷ low_bits a (v / 2)) ++ low_bits b n) (div-div-eq-div-mul v 2 (2 ^ a) ∙ ap (λ n. v / n) (let e : 2 * 2 ^ a ≡ 2 ^ suc a = omega (arith, pow-suc 2 a) in e))

-- what stands above does not matter
pub low_bits-above : (n v w : ℕ) → low_bits n (v + w * 2 ^ n) ≡ low_bits n v
low_bits-above zero v w = refl
low_bits-above (suc n) v w =
    let e : v + w * 2 ^ suc n ≡ v + w * 2 ^ n * 2 = omega (arith, ap (λ p. w * p) (pow-suc 2 n)) in
    ap (λ x. x % 2 ∷ low_bits n (x / 2)) e
    ∙ ap (λ x. x ∷ low_bits n ((v + w * 2 ^ n * 2) / 2)) (add-mul-mod_self_right v (w * 2 ^ n) 2)
    ∙ ap (λ x. v % 2 ∷ low_bits n x) (add-mul-div_right v (w * 2 ^ n) (lit< tt))
    ∙ ap (λ ns. v % 2 ∷ ns) (low_bits-above n (v / 2) w)

pub low_bits-mod : (n v : ℕ) → low_bits n (v % 2 ^ n) ≡ low_bits n v
low_bits-mod n v =
    sym (low_bits-above n (v % 2 ^ n) (v / 2 ^ n))
    ∙ ap (low_bits n) (let e : v % 2 ^ n + v / 2 ^ n * 2 ^ n ≡ v = omega (arith, shr_split v n) in e)

-- two numbers side by side
pub low_bits-cat : (a b v w : ℕ) → v < 2 ^ a → low_bits (a + b) (w * 2 ^ a + v) ≡ low_bits a v ++ low_bits b w
low_bits-cat a b v w h =
    low_bits-split a b (w * 2 ^ a + v)
    ∙ ap (λ ns. ns ++ low_bits b ((w * 2 ^ a + v) / 2 ^ a)) (ap (low_bits a) (let e : w * 2 ^ a + v ≡ v + w * 2 ^ a = omega arith in e) ∙ low_bits-above a v w)
    ∙ ap (λ n. low_bits a v ++ low_bits b n) (shr_high w a v h)

byte_at_is : (i v : ℕ) → byte_at i v ≡ v / 256 ^ i % 256
byte_at_is zero v = ap (λ n. n % 256) (let e : v ≡ v / 256 ^ 0 = omega arith in e)
byte_at_is (suc i) v = refl

bits_of-bytes : (k i v : ℕ) → low_bits (8 * k) (v / 256 ^ i) ≡ bits_of (bytes_low_first i k v)
bits_of-bytes zero i v = refl
bits_of-bytes (suc k) i v =
    ap (λ n. low_bits n (v / 256 ^ i)) (let e : 8 * suc k ≡ 8 + 8 * k = omega arith in e)
    ∙ low_bits-split 8 (8 * k) (v / 256 ^ i)
    ∙ ap (λ ns. ns ++ low_bits (8 * k) (v / 256 ^ i / 256)) (sym (low_bits-mod 8 (v / 256 ^ i)) ∙ ap (low_bits 8) (sym (byte_at_is i v)))
    ∙ ap (λ n. low_bits 8 (byte_at i v) ++ low_bits (8 * k) n) (div-div-eq-div-mul v (256 ^ i) 256 ∙ ap (λ n. v / n) (let e : 256 ^ i * 256 ≡ 256 ^ suc i = omega (arith, pow-suc 256 i) in e))
    ∙ ap (λ ns. low_bits 8 (byte_at i v) ++ ns) (bits_of-bytes k (suc i) v)

pub bits_of-to_le_bytes : (v : ℕ) → bits_of (to_le_bytes w64 v) ≡ low_bits 64 v
bits_of-to_le_bytes v = sym (bits_of-bytes 8 0 v) ∙ ap (low_bits 64) (let e : v / 256 ^ 0 ≡ v = omega arith in e)

-- ---- a word that is partly filled

pub shl_in_word : (f r bits : ℕ) → r + f ≡ 64 → bits * 2 ^ f % 2 ^ 64 ≡ bits % 2 ^ r * 2 ^ f
shl_in_word f r bits e =
    let q = bits / 2 ^ r in
    let m = bits % 2 ^ r in
    let whole : 2 ^ r * 2 ^ f ≡ 2 ^ 64 = sym (pow-add 2 r f) ∙ ap (λ n. 2 ^ n) e in
    let parts : bits * 2 ^ f ≡ m * 2 ^ f + q * 2 ^ 64 =
    ap (λ n. n * 2 ^ f) (sym (shr_split bits r))
    ∙ (let d : (q * 2 ^ r + m) * 2 ^ f ≡ m * 2 ^ f + q * (2 ^ r * 2 ^ f) = omega arith in d)
    ∙ ap (λ n. m * 2 ^ f + q * n) whole in
    ap (λ n. n % 2 ^ 64) parts
    ∙ add-mul-mod_self_right (m * 2 ^ f) q (2 ^ 64)
    ∙ shl_whole m r f 64 (mod_below bits (2 ^ r) (pow_pos r)) (omega arith)

pub joined_is : (f r bits word : ℕ) → r + f ≡ 64 → word < 2 ^ f → bit_or (bits * 2 ^ f % 2 ^ 64) word ≡ bits % 2 ^ r * 2 ^ f + word
joined_is f r bits word e h = ap (λ n. bit_or n word) (shl_in_word f r bits e) ∙ or_shifted (bits % 2 ^ r) f word h

below_pow : (a b n : ℕ) → n < 2 ^ a → a ≤ b → n < 2 ^ b
below_pow a b n h l = omega (arith, pow-le-pow_right {n = 2} (lit< tt) l)

pub joined_short : (f r count bits word : ℕ) → r + f ≡ 64 → word < 2 ^ f → bits < 2 ^ count → count ≤ r → bit_or (bits * 2 ^ f % 2 ^ 64) word ≡ bits * 2 ^ f + word
joined_short f r count bits word e h b l =
    joined_is f r bits word e h ∙ ap (λ n. n * 2 ^ f + word) (mod-eq_of_lt (below_pow count r bits b l))

pub append_short : (f r count bits word : ℕ) (front : List ℕ) → r + f ≡ 64 → word < 2 ^ f → bits < 2 ^ count → count ≤ r → front ++ low_bits (f + count) (bit_or (bits * 2 ^ f % 2 ^ 64) word) ≡ front ++ low_bits f word ++ low_bits count bits
append_short f r count bits word front e h b l =
    ap (λ n. front ++ low_bits (f + count) n) (joined_short f r count bits word e h b l)
    ∙ ap (λ ns. front ++ ns) (low_bits-cat f count word bits h)
    ∙ sym (append_assoc front (low_bits f word) (low_bits count bits))

pub append_short-below : (f r count bits word : ℕ) → r + f ≡ 64 → word < 2 ^ f → bits < 2 ^ count → count ≤ r → bit_or (bits * 2 ^ f % 2 ^ 64) word < 2 ^ (f + count)
append_short-below f r count bits word e h b l =
    let q : bits + 1 ≤ 2 ^ count = omega arith in
    omega (arith, joined_short f r count bits word e h b l, pow-add 2 f count, mul-le-mul_right (2 ^ f) q)

pub append_long : (f r count bits word : ℕ) (front : List ℕ) → r + f ≡ 64 → word < 2 ^ f → r ≤ count → (front ++ low_bits 64 (bit_or (bits * 2 ^ f % 2 ^ 64) word)) ++ low_bits (count - r) (bits / 2 ^ r) ≡ front ++ low_bits f word ++ low_bits count bits
append_long f r count bits word front e h l =
    ap (λ n. (front ++ low_bits 64 n) ++ low_bits (count - r) (bits / 2 ^ r)) (joined_is f r bits word e h)
    ∙ ap (λ n. (front ++ low_bits n (bits % 2 ^ r * 2 ^ f + word)) ++ low_bits (count - r) (bits / 2 ^ r)) (let q : 64 ≡ f + r = omega arith in q)
    ∙ ap (λ ns. (front ++ ns) ++ low_bits (count - r) (bits / 2 ^ r)) (low_bits-cat f r word (bits % 2 ^ r) h ∙ ap (λ ns. low_bits f word ++ ns) (low_bits-mod r bits))
    ∙ append_assoc front (low_bits f word ++ low_bits r bits) (low_bits (count - r) (bits / 2 ^ r))
    ∙ ap (λ ns. front ++ ns) (append_assoc (low_bits f word) (low_bits r bits) (low_bits (count - r) (bits / 2 ^ r)))
    ∙ ap (λ ns. front ++ (low_bits f word ++ ns)) (sym (low_bits-split r (count - r) bits) ∙ ap (λ n. low_bits n bits) (let q : r + (count - r) ≡ count = omega arith in q))
    ∙ sym (append_assoc front (low_bits f word) (low_bits count bits))

pub bits_of-push_word : (bytes : List ℕ) (word : ℕ) → bits_of (bytes ++ to_le_bytes w64 word) ≡ bits_of bytes ++ low_bits 64 word
bits_of-push_word bytes word =
    flat_map-append (low_bits 8) bytes (to_le_bytes w64 word) ∙ ap (λ ns. bits_of bytes ++ ns) (bits_of-to_le_bytes word)

pub no_bits : (count r x y : ℕ) → count ≤ r → low_bits (count - r) x ≡ low_bits (count - r) y
no_bits count r x y h =
    let e : count - r ≡ 0 = omega arith in
    ap (λ n. low_bits n x) e ∙ ap (λ n. low_bits n y) (sym e)

pub get_or-low_bits : (n v i : ℕ) → i < n → get_or (low_bits n v) i 0 ≡ v / 2 ^ i % 2
get_or-low_bits zero v i h = absurd (omega arith)
get_or-low_bits (suc n) v zero h = ap (λ x. x % 2) (let e : v ≡ v / 2 ^ 0 = omega arith in e)
get_or-low_bits (suc n) v (suc i) h =
    get_or-low_bits n (v / 2) i (omega arith)
    ∙ ap (λ x. x % 2) (div-div-eq-div-mul v 2 (2 ^ i) ∙ ap (λ x. v / x) (let e : 2 * 2 ^ i ≡ 2 ^ suc i = omega (arith, pow-suc 2 i) in e))

pub bit_at-bytes : (bytes : List ℕ) (j r : ℕ) → j < length bytes → r < 8 → get_or (bits_of bytes) (j * 8 + r) 0 ≡ get_or bytes j 0 / 2 ^ r % 2
bit_at-bytes [] j r h l = absurd (omega arith)
bit_at-bytes (byte ∷ bytes) zero r h l =
    ap (λ k. get_or (low_bits 8 byte ++ bits_of bytes) k 0) (let e : 0 * 8 + r ≡ r = omega arith in e)
    ∙ get_or_append_left (low_bits 8 byte) (bits_of bytes) 0 r (omega (arith, length-low_bits 8 byte))
    ∙ get_or-low_bits 8 byte r l
bit_at-bytes (byte ∷ bytes) (suc j) r h l =
    get_or-append_right (low_bits 8 byte) (bits_of bytes) 8 (suc j * 8 + r) 0 (length-low_bits 8 byte) (omega arith)
    ∙ ap (λ k. get_or (bits_of bytes) k 0) (let e : suc j * 8 + r - 8 ≡ j * 8 + r = omega arith in e)
    ∙ bit_at-bytes bytes j r (omega arith) l

pub length-bits_of : (bytes : List ℕ) → length (bits_of bytes) ≡ 8 * length bytes
length-bits_of [] = refl
length-bits_of (byte ∷ bytes) = length-append (low_bits 8 byte) (bits_of bytes) ∙ omega (arith, length-low_bits 8 byte, length-bits_of bytes)

pub bit_of-place : (bytes : List ℕ) (place : ℕ) → place < 8 * length bytes → get_or (bits_of bytes) place 0 ≡ get_or bytes (place / 8) 0 / 2 ^ (place % 8) % 2
bit_of-place bytes place h =
    ap (λ k. get_or (bits_of bytes) k 0) (let e : place ≡ place / 8 * 8 + place % 8 = omega arith in e)
    ∙ bit_at-bytes bytes (place / 8) (place % 8) (omega arith) (omega arith)

pub bits_of-read : (bytes : List ℕ) (word : ℕ) → length bytes ≡ 8 → ((i : ℕ) → get_or bytes i 0 < 256) → word ≡ from_le_bytes w64 bytes → low_bits 64 word ≡ bits_of bytes
bits_of-read bytes word l fits e = sym (bits_of-to_le_bytes word) ∙ ap bits_of (le_bytes_8 bytes word l fits e)

-- ---- the last bytes

take-bytes : (n k i v : ℕ) → n ≤ k → take n (bytes_low_first i k v) ≡ bytes_low_first i n v
take-bytes zero k i v h = refl
take-bytes (suc n) zero i v h = absurd (omega arith)
take-bytes (suc n) (suc k) i v h = ap (λ ns. byte_at i v ∷ ns) (take-bytes n k (suc i) v (omega arith))

pub low_bits-zero : (n : ℕ) → low_bits n 0 ≡ replicate n 0
low_bits-zero zero = refl
low_bits-zero (suc n) = ap (λ ns. 0 ∷ ns) (low_bits-zero n)

-- the last bytes of a word that is partly filled
pub flush : (front : List ℕ) (filled word used : ℕ) → used ≤ 8 → filled ≤ 8 * used → word < 2 ^ filled → bits_of (front ++ take used (to_le_bytes w64 word)) ≡ (bits_of front ++ low_bits filled word) ++ replicate (8 * used - filled) 0
flush front filled word used h l below =
    let rest = 8 * used - filled in
    flat_map-append (low_bits 8) front (take used (to_le_bytes w64 word))
    ∙ ap (λ ns. bits_of front ++ ns) (
    ap bits_of (take-bytes used 8 0 word h)
    ∙ sym (bits_of-bytes used 0 word)
    ∙ ap (low_bits (8 * used)) (let e : word / 256 ^ 0 ≡ word = omega arith in e)
    ∙ ap (λ n. low_bits n word) (let e : 8 * used ≡ filled + rest = omega arith in e)
    ∙ low_bits-split filled rest word
    ∙ ap (λ n. low_bits filled word ++ low_bits rest n) (div-eq_of_lt below)
    ∙ ap (λ ns. low_bits filled word ++ ns) (low_bits-zero rest))
    ∙ sym (append_assoc (bits_of front) (low_bits filled word) (replicate rest 0))

-- ---- a read by words

pub bits_of-drop : (n : ℕ) (bytes : List ℕ) → bits_of (drop n bytes) ≡ drop (8 * n) (bits_of bytes)
bits_of-drop zero bytes = refl
bits_of-drop (suc n) [] = sym (drop_all (8 * suc n) [] (omega arith))
bits_of-drop (suc n) (byte ∷ bytes) =
    bits_of-drop n bytes
    ∙ ap (drop (8 * n)) (sym (drop_at (low_bits 8 byte) (bits_of bytes) 8 (length-low_bits 8 byte)))
    ∙ drop-drop (8 * n) 8 (low_bits 8 byte ++ bits_of bytes)
    ∙ ap (λ k. drop k (low_bits 8 byte ++ bits_of bytes)) (let e : 8 + 8 * n ≡ 8 * suc n = omega arith in e)

pub bits_of-take : (n : ℕ) (bytes : List ℕ) → n ≤ length bytes → bits_of (take n bytes) ≡ take (8 * n) (bits_of bytes)
bits_of-take n bytes h =
    sym (take_at (bits_of (take n bytes)) (bits_of (drop n bytes)) (8 * n) (length-bits_of (take n bytes) ∙ ap (λ k. 8 * k) (length-take-le n bytes h)))
    ∙ ap (take (8 * n)) (sym (flat_map-append (low_bits 8) (take n bytes) (drop n bytes)) ∙ ap bits_of (take-append-drop n bytes))

-- the first bytes of a word
pub first_bytes : (used word : ℕ) → used ≤ 8 → bits_of (take used (to_le_bytes w64 word)) ≡ low_bits (8 * used) word
first_bytes used word h =
    ap bits_of (take-bytes used 8 0 word h)
    ∙ sym (bits_of-bytes used 0 word)
    ∙ ap (low_bits (8 * used)) (let e : word / 256 ^ 0 ≡ word = omega arith in e)

-- whole bytes of a word that is partly filled go out
pub level : (front : List ℕ) (filled word whole rest : ℕ) → whole ≤ 8 → filled ≡ 8 * whole + rest → bits_of (front ++ take whole (to_le_bytes w64 word)) ++ low_bits rest (word / 2 ^ (8 * whole)) ≡ bits_of front ++ low_bits filled word
level front filled word whole rest h e =
    ap (λ (xs : List ℕ). xs ++ low_bits rest (word / 2 ^ (8 * whole))) (flat_map-append (low_bits 8) front (take whole (to_le_bytes w64 word)) ∙ ap (λ (xs : List ℕ). bits_of front ++ xs) (first_bytes whole word h))
    ∙ append_assoc (bits_of front) (low_bits (8 * whole) word) (low_bits rest (word / 2 ^ (8 * whole)))
    ∙ ap (λ (xs : List ℕ). bits_of front ++ xs) (sym (low_bits-split (8 * whole) rest word) ∙ ap (λ n. low_bits n word) (sym e))
