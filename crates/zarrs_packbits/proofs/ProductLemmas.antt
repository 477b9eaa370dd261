-- One bit of each of eight bytes, gathered by a product.
use Rattle.std.proofs.Common.{◌≡◌, ℕ, zero, suc, ◌+◌, ◌-◌, ◌*◌, ◌/◌, ◌%◌, ◌^◌, ◌<◌, ◌≤◌, List, [], ◌∷◌, ◌++◌, length, take, drop, get_or, arith, refl, ap, ap₂, sym, ◌∙◌}
use Rattle.std.specs.Prelude.{bit_and, bit_or}
use Rattle.std.specs.List.{flat_map, range_with_len}
use Rattle.std.proofs.lemmas.Nat.{and_block, and_mask, mod_below, mod_low, pow_pos, shr_high, shr_split, pow-add, shl_whole, or_comm, or_shifted}
use Rattle.std.proofs.Math.Nat.{div-div-eq-div-mul, pow-suc, mul-le-mul_right}
use Rattle.std.proofs.lemmas.List.{length-drop, length-take-le}
use Rattle.zarrs_packbits.specs.Bits.{low_bits, bits_of, field}
use Rattle.zarrs_packbits.specs.KeptBits.{component_bits}
use Rattle.zarrs_packbits.specs.WrittenBits.{flags_of}
use Rattle.zarrs_packbits.proofs.LowBits.{get_or-low_bits, bit_at-bytes, low_bits-cat}
use Rattle.zarrs_packbits.proofs.FlagLemmas.{flag_at, flags_before, flags_split}
use Rattle.zarrs_packbits.proofs.LocalLemmas.{flat_range_same}

-- the lowest bit of each of so many bytes of a number, in place, side by side, and as a list
abbrev pub picked : ℕ → ℕ → ℕ
picked zero x = 0
picked (suc n) x = x % 2 + 256 * picked n (x / 256)

abbrev pub joined : ℕ → ℕ → ℕ
joined zero x = 0
joined (suc n) x = x % 2 + 2 * joined n (x / 256)

abbrev pub odds : ℕ → ℕ → List ℕ
odds zero x = []
odds (suc n) x = x % 2 ∷ odds n (x / 256)

abbrev pub ones_each : ℕ → ℕ
ones_each zero = 0
ones_each (suc n) = 1 + 256 * ones_each n

pub picked_is : (n x : ℕ) → bit_and x (ones_each n) ≡ picked n x
picked_is zero x = and_mask x 0 ∙ (let e : x % 2 ^ 0 ≡ 0 = omega arith in e)
picked_is (suc n) x =
    let low : x % 256 < 2 ^ 8 = omega arith in
    let one : bit_and (x % 256) 1 ≡ x % 2 = and_mask (x % 256) 1 ∙ (let e : x % 256 % 2 ^ 1 ≡ x % 2 = omega arith in e) in
    ap₂ bit_and (let e : x ≡ x / 256 * 2 ^ 8 + x % 256 = omega arith in e) (let e : 1 + 256 * ones_each n ≡ ones_each n * 2 ^ 8 + 1 = omega arith in e)
    ∙ and_block 8 (x / 256) (ones_each n) (x % 256) 1 low (omega arith)
    ∙ ap₂ (λ a b. a * 2 ^ 8 + b) (picked_is n (x / 256)) one
    ∙ (let e : picked n (x / 256) * 2 ^ 8 + x % 2 ≡ x % 2 + 256 * picked n (x / 256) = omega arith in e)

pub low_bits-joined : (n x : ℕ) → low_bits n (joined n x) ≡ odds n x
low_bits-joined zero x = refl
low_bits-joined (suc n) x =
    let rest = joined n (x / 256) in
    let odd : (x % 2 + 2 * rest) % 2 ≡ x % 2 = omega arith in
    let half : (x % 2 + 2 * rest) / 2 ≡ rest = omega arith in
    ap₂ (λ a b. a ∷ low_bits n b) odd half ∙ ap (λ (xs : List ℕ). x % 2 ∷ xs) (low_bits-joined n (x / 256))

-- the product of eight bits, one in each byte, has them in its highest byte
pub product_of : (a b c d e f g h : ℕ) → a < 2 → b < 2 → c < 2 → d < 2 → e < 2 → f < 2 → g < 2 → h < 2
    → (a + 256 * (b + 256 * (c + 256 * (d + 256 * (e + 256 * (f + 256 * (g + 256 * (h + 256 * 0)))))))) * 72624976668147840 % 2 ^ 64 / 2 ^ 56 ≡ a + 2 * (b + 2 * (c + 2 * (d + 2 * (e + 2 * (f + 2 * (g + 2 * (h + 2 * 0)))))))
product_of a b c d e f g h la lb lc ld le lf lg lh =
    let top = a + 2 * b + 4 * c + 8 * d + 16 * e + 32 * f + 64 * g + 128 * h in
    let low = 567382630219904 * a + 1134765260439552 * b + 2269530520813568 * c + 4539061024849920 * d + 9078117754732544 * e + 18155135997837312 * f + 36028797018963968 * g in
    let high = 1 * b + 258 * c + 66052 * d + 16909320 * e + 4328785936 * f + 1108169199648 * g + 283691315109952 * h in
    let small : low < 2 ^ 56 = omega arith in
    let byte : top < 2 ^ 8 = omega arith in
    let whole : top * 2 ^ 56 + low < 2 ^ 64 = omega arith in
    let is : (a + 256 * (b + 256 * (c + 256 * (d + 256 * (e + 256 * (f + 256 * (g + 256 * (h + 256 * 0)))))))) * 72624976668147840 ≡ high * 2 ^ 64 + (top * 2 ^ 56 + low) = omega arith in
    ap (λ n. n % 2 ^ 64 / 2 ^ 56) is
    ∙ ap (λ n. n / 2 ^ 56) (mod_low high 64 (top * 2 ^ 56 + low) whole)
    ∙ shr_high top 56 low small
    ∙ (let r : top ≡ a + 2 * (b + 2 * (c + 2 * (d + 2 * (e + 2 * (f + 2 * (g + 2 * (h + 2 * 0))))))) = omega arith in r)

pub product_is : (x : ℕ) → picked 8 x * 72624976668147840 % 2 ^ 64 / 2 ^ 56 ≡ joined 8 x
product_is x =
    product_of (x % 2) (x / 256 % 2) (x / 256 / 256 % 2) (x / 256 / 256 / 256 % 2) (x / 256 / 256 / 256 / 256 % 2) (x / 256 / 256 / 256 / 256 / 256 % 2) (x / 256 / 256 / 256 / 256 / 256 / 256 % 2) (x / 256 / 256 / 256 / 256 / 256 / 256 / 256 % 2)
    (omega arith) (omega arith) (omega arith) (omega arith) (omega arith) (omega arith) (omega arith) (omega arith)

-- the factor moved down, and the bits as many places up
factor_moved : (b : ℕ) → b < 8 → 72624976668147840 / 2 ^ b * 2 ^ b ≡ 72624976668147840
factor_moved b h =
    let r = 7 - b in
    let parts : 72624976668147840 ≡ 567382630219905 * 2 ^ r * 2 ^ b + 0
    = (let whole : 2 ^ 7 ≡ 2 ^ r * 2 ^ b = ap (λ n. 2 ^ n) (let e : 7 ≡ r + b = omega arith in e) ∙ pow-add 2 r b in
    ap (λ n. 567382630219905 * n) whole ∙ (let e : 567382630219905 * (2 ^ r * 2 ^ b) ≡ 567382630219905 * 2 ^ r * 2 ^ b + 0 = omega arith in e)) in
    ap (λ n. n * 2 ^ b) (ap (λ n. n / 2 ^ b) parts ∙ shr_high (567382630219905 * 2 ^ r) b 0 (pow_pos b))
    ∙ (let e : 567382630219905 * 2 ^ r * 2 ^ b ≡ 567382630219905 * 2 ^ r * 2 ^ b + 0 = omega arith in e) ∙ sym parts

pub product_moved : (w b : ℕ) → b < 8 → bit_and w (72340172838076673 * 2 ^ b % 2 ^ 64) * (72624976668147840 / 2 ^ b) ≡ picked 8 (w / 2 ^ b) * 72624976668147840
product_moved w b h =
    let x = w / 2 ^ b in
    let ones : 72340172838076673 * 2 ^ b % 2 ^ 64 ≡ 72340172838076673 * 2 ^ b + 0
    = shl_whole 72340172838076673 57 b 64 (omega arith) (omega arith) ∙ (let e : 72340172838076673 * 2 ^ b ≡ 72340172838076673 * 2 ^ b + 0 = omega arith in e) in
    let none : bit_and (w % 2 ^ b) 0 ≡ 0 = and_mask (w % 2 ^ b) 0 ∙ (let e : w % 2 ^ b % 2 ^ 0 ≡ 0 = omega arith in e) in
    let bits : bit_and w (72340172838076673 * 2 ^ b % 2 ^ 64) ≡ picked 8 x * 2 ^ b
    = ap₂ bit_and (sym (shr_split w b)) ones
    ∙ and_block b x 72340172838076673 (w % 2 ^ b) 0 (mod_below w (2 ^ b) (pow_pos b)) (pow_pos b)
    ∙ ap₂ (λ m n. m * 2 ^ b + n) (picked_is 8 x) none
    ∙ (let e : picked 8 x * 2 ^ b + 0 ≡ picked 8 x * 2 ^ b = omega arith in e) in
    ap (λ n. n * (72624976668147840 / 2 ^ b)) bits
    ∙ regroup (picked 8 x) (2 ^ b) (72624976668147840 / 2 ^ b)
    ∙ ap (λ n. picked 8 x * n) (factor_moved b h)
  where
    regroup : (a b c : ℕ) → a * b * c ≡ a * (c * b)
    regroup a b c = omega arith

pub joined_small : (n x : ℕ) → joined n x < 2 ^ n
joined_small zero x = omega arith
joined_small (suc n) x = omega (arith, joined_small n (x / 256), pow-suc 2 n)

odds_are : (g : ℕ → ℕ) (n j x : ℕ) → ((i : ℕ) → i < n → x / 256 ^ i % 2 ≡ g (j + i)) → odds n x ≡ flat_map (λ p. g p ∷ []) (range_with_len j n)
odds_are g zero j x h = refl
odds_are g (suc n) j x h =
    let first : x % 2 ≡ g j = ap (λ n. n % 2) (let e : x ≡ x / 256 ^ 0 = omega arith in e) ∙ h 0 (omega arith) ∙ ap g (let e : j + 0 ≡ j = omega arith in e) in
    let rest : (i : ℕ) → i < n → x / 256 / 256 ^ i % 2 ≡ g (j + 1 + i)
    = λ i lt. ap (λ n. n % 2) (div-div-eq-div-mul x 256 (256 ^ i) ∙ ap (λ n. x / n) (let e : 256 * 256 ^ i ≡ 256 ^ suc i = omega (arith, pow-suc 256 i) in e))
    ∙ h (suc i) (omega arith) ∙ ap g (let e : j + suc i ≡ j + 1 + i = omega arith in e) in
    ap (λ a. a ∷ odds n (x / 256)) first ∙ ap (λ (xs : List ℕ). g j ∷ xs) (odds_are g n (j + 1) (x / 256) rest)

power : (i : ℕ) → 256 ^ i ≡ 2 ^ (8 * i)
power zero = refl
power (suc i) = pow-suc 256 i ∙ ap (λ n. n * 256) (power i) ∙ sym (pow-add 2 (8 * i) 8) ∙ ap (λ n. 2 ^ n) (let e : 8 * i + 8 ≡ 8 * suc i = omega arith in e)

-- the bits that are gathered are those of the bytes
pub flags_are : (bytes : List ℕ) (word bit : ℕ) → length bytes ≡ 8 → bit < 8 → low_bits 64 word ≡ bits_of bytes → odds 8 (word / 2 ^ bit) ≡ flags_of bit bytes
flags_are bytes word bit l h e =
    let g : ℕ → ℕ = λ i. get_or bytes i 0 / 2 ^ bit % 2 in
    let each : (i : ℕ) → i < 8 → word / 2 ^ bit / 256 ^ i % 2 ≡ g (0 + i)
    = λ i lt. ap (λ n. n % 2) (div-div-eq-div-mul word (2 ^ bit) (256 ^ i) ∙ ap (λ n. word / n) (ap (λ n. 2 ^ bit * n) (power i) ∙ sym (pow-add 2 bit (8 * i)) ∙ ap (λ n. 2 ^ n) (let q : bit + 8 * i ≡ i * 8 + bit = omega arith in q)))
    ∙ sym (get_or-low_bits 64 word (i * 8 + bit) (omega arith))
    ∙ ap (λ (xs : List ℕ). get_or xs (i * 8 + bit) 0) e
    ∙ bit_at-bytes bytes i bit (omega arith) h
    ∙ ap g (let q : i ≡ 0 + i = omega arith in q) in
    odds_are g 8 0 (word / 2 ^ bit) each
    ∙ flat_range_same (λ p. g p ∷ []) (λ part. field bit 1 (component_bits 1 bytes part)) 8 (λ i lt. sym (flag_at bytes i bit (omega arith) h))
    ∙ ap (λ n. flat_map (λ part. field bit 1 (component_bits 1 bytes part)) (range_with_len 0 n)) (sym l)

-- eight bytes more
pub flags_step : (bytes slice : List ℕ) (k bit word flags : ℕ) → slice ≡ take 8 (drop (8 * k) bytes) → 8 * k + 8 ≤ length bytes → low_bits (8 * k) word ≡ flags_before bit bytes (8 * k) → word < 2 ^ (8 * k) → low_bits 8 flags ≡ flags_of bit slice
    → low_bits (8 * (k + 1)) (flags * 2 ^ (8 * k) + word) ≡ flags_before bit bytes (8 * (k + 1))
flags_step bytes slice k bit word flags is within before below more =
    let next : 8 * (k + 1) ≡ 8 * k + 8 = omega arith in
    let long : length slice ≡ 8 = ap length is ∙ length-take-le 8 (drop (8 * k) bytes) (omega (arith, length-drop (8 * k) bytes)) in
    ap (λ n. low_bits n (flags * 2 ^ (8 * k) + word)) next
    ∙ low_bits-cat (8 * k) 8 word flags below
    ∙ ap₂ (λ (a b : List ℕ). a ++ b) before more
    ∙ sym (flags_split bytes slice bit (8 * k) 8 is long)
    ∙ ap (flags_before bit bytes) (sym next)

pub flags_joined : (k word flags : ℕ) → k < 8 → flags < 2 ^ 8 → word < 2 ^ (8 * k) → bit_or word (flags * 2 ^ (8 * k) % 2 ^ 64) ≡ flags * 2 ^ (8 * k) + word
flags_joined k word flags h small below =
    ap (bit_or word) (shl_whole flags 8 (8 * k) 64 small (omega arith)) ∙ or_comm word (flags * 2 ^ (8 * k)) ∙ or_shifted flags (8 * k) word below

pub flags_below : (k word flags : ℕ) → flags < 2 ^ 8 → word < 2 ^ (8 * k) → flags * 2 ^ (8 * k) + word < 2 ^ (8 * (k + 1))
flags_below k word flags small below =
    let q : flags + 1 ≤ 2 ^ 8 = omega arith in
    let next : 2 ^ (8 * (k + 1)) ≡ 2 ^ 8 * 2 ^ (8 * k) = ap (λ n. 2 ^ n) (let e : 8 * (k + 1) ≡ 8 + 8 * k = omega arith in e) ∙ pow-add 2 8 (8 * k) in
    omega (arith, next, mul-le-mul_right (2 ^ (8 * k)) q)
