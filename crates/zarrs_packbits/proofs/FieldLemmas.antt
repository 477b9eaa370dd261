-- Fields, and bits as bytes.
use Rattle.std.proofs.Common.{◌≡◌, ℕ, zero, suc, ◌+◌, ◌-◌, ◌*◌, ◌/◌, ◌%◌, ◌^◌, ◌<◌, ◌≤◌, List, [], ◌∷◌, ◌++◌, length, take, drop, replicate, get_or, arith, refl, ap, sym, ◌∙◌}
use Rattle.std.proofs.Math.Seq.{take-add}
use Rattle.std.proofs.Math.Nat.{pow-suc}
use Rattle.std.proofs.lemmas.Nat.{pow_pos, pow-add, shr_high}
use Rattle.std.proofs.lemmas.List.{append-nil, drop-drop, length-append, length-replicate, take_at, drop_at, drop-replicate}
use Rattle.std.specs.List.{flat_map, range_with_len}
use Rattle.std.proofs.lemmas.List.{length-take}
use Rattle.std.proofs.lemmas.List.Concat.{flat_map-append}
use Rattle.zarrs_packbits.specs.Bits.{low_bits, bits_of, field}
use Rattle.zarrs_array_bytes.proofs.UpdateSteps.{range_more}
use Rattle.zarrs_packbits.proofs.LowBits.{length-low_bits, length-bits_of}
use Rattle.zarrs_packbits.specs.KeptBits.{component_bits}
use Rattle.zarrs_packbits.specs.Packing.{number_of, bytes_from_bits, packing}

-- one part more
pub flat_more : (f : ℕ → List ℕ) (n : ℕ) → flat_map f (range_with_len 0 (n + 1)) ≡ flat_map f (range_with_len 0 n) ++ f n
flat_more f n =
    ap (flat_map f) (range_more 0 n)
    ∙ flat_map-append f (range_with_len 0 n) ((0 + n) ∷ [])
    ∙ ap (λ ns. flat_map f (range_with_len 0 n) ++ ns) (append-nil (f (0 + n)) ∙ ap f (let e : 0 + n ≡ n = omega arith in e))

-- one field bytes_behind another
pub field_more : (at n m : ℕ) (bits : List ℕ) → field at n bits ++ field (at + n) m bits ≡ field at (n + m) bits
field_more at n m bits =
    sym (take-add n m (drop at bits) ∙ ap (λ ys. take n (drop at bits) ++ take m ys) (drop-drop n at bits))

pub low_bits_ones : (n : ℕ) → low_bits n (2 ^ n - 1) ≡ replicate n 1
low_bits_ones zero = refl
low_bits_ones (suc n) =
    let p = pow_pos n in
    let e : 2 ^ suc n ≡ 2 * 2 ^ n = omega (arith, pow-suc 2 n) in
    let odd : (2 ^ suc n - 1) % 2 ≡ 1 = omega arith in
    let half : (2 ^ suc n - 1) / 2 ≡ 2 ^ n - 1 = omega arith in
    ap (λ x. x ∷ low_bits n ((2 ^ suc n - 1) / 2)) odd ∙ ap (λ x. 1 ∷ low_bits n x) half ∙ ap (λ ns. 1 ∷ ns) (low_bits_ones n)

pub ones_shifted : (n : ℕ) → n ≤ 64 → (2 ^ 64 - 1) / 2 ^ (64 - n) ≡ 2 ^ n - 1
ones_shifted n h =
    let p = pow_pos n in
    let q = pow_pos (64 - n) in
    let e : 2 ^ 64 ≡ 2 ^ n * 2 ^ (64 - n) = ap (λ k. 2 ^ k) (let d : 64 ≡ n + (64 - n) = omega arith in d) ∙ pow-add 2 n (64 - n) in
    let split : 2 ^ n ≡ (2 ^ n - 1) + 1 = omega arith in
    let whole : 2 ^ n * 2 ^ (64 - n) ≡ (2 ^ n - 1) * 2 ^ (64 - n) + 2 ^ (64 - n) = ap (λ k. k * 2 ^ (64 - n)) split ∙ (let d : ((2 ^ n - 1) + 1) * 2 ^ (64 - n) ≡ (2 ^ n - 1) * 2 ^ (64 - n) + 2 ^ (64 - n) = omega arith in d) in
    let parts : 2 ^ 64 - 1 ≡ (2 ^ n - 1) * 2 ^ (64 - n) + (2 ^ (64 - n) - 1) = omega arith in
    ap (λ k. k / 2 ^ (64 - n)) parts ∙ shr_high (2 ^ n - 1) (64 - n) (2 ^ (64 - n) - 1) (omega arith)

number_of-byte : (n b : ℕ) → b < 2 ^ n → number_of (low_bits n b) ≡ b
number_of-byte zero b h = omega arith
number_of-byte (suc n) b h =
    ap (λ k. b % 2 + 2 * k) (number_of-byte n (b / 2) (omega (arith, pow-suc 2 n))) ∙ (let e : b % 2 + 2 * (b / 2) ≡ b = omega arith in e)

-- bytes are made again of their bits
pub bytes_of-bits_of : (bytes : List ℕ) → ((i : ℕ) → get_or bytes i 0 < 256) → bytes_from_bits (length bytes) (bits_of bytes) ≡ bytes
bytes_of-bits_of [] h = refl
bytes_of-bits_of (b ∷ bytes) h =
    let here : b < 256 = h 0 in
    let rest : (i : ℕ) → get_or bytes i 0 < 256 = λ i. h (suc i) in
    let t = take_at (low_bits 8 b) (bits_of bytes) 8 (length-low_bits 8 b) in
    let d = drop_at (low_bits 8 b) (bits_of bytes) 8 (length-low_bits 8 b) in
    ap (λ xs. number_of xs ∷ bytes_from_bits (length bytes) (drop 8 (low_bits 8 b ++ bits_of bytes))) t
    ∙ ap (λ xs. number_of (low_bits 8 b) ∷ bytes_from_bits (length bytes) xs) d
    ∙ ap (λ x. x ∷ bytes_from_bits (length bytes) (bits_of bytes)) (number_of-byte 8 b here)
    ∙ ap (λ xs. b ∷ xs) (bytes_of-bits_of bytes rest)

number_of-zeros : (n k : ℕ) → number_of (take n (replicate k 0)) ≡ 0
number_of-zeros zero k = refl
number_of-zeros (suc n) zero = refl
number_of-zeros (suc n) (suc k) = ap (λ x. 0 + 2 * x) (number_of-zeros n k)

number_of-padded : (n k : ℕ) (bits : List ℕ) → number_of (take n (bits ++ replicate k 0)) ≡ number_of (take n bits)
number_of-padded zero k bits = refl
number_of-padded (suc n) k [] = number_of-zeros (suc n) k
number_of-padded (suc n) k (b ∷ bits) = ap (λ x. b + 2 * x) (number_of-padded n k bits)

drop-padded : (n k : ℕ) (bits : List ℕ) → drop n (bits ++ replicate k 0) ≡ drop n bits ++ replicate (k - (n - length bits)) 0
drop-padded zero k bits = ap (λ j. bits ++ replicate j 0) (let e : k ≡ k - (0 - length bits) = omega arith in e)
drop-padded (suc n) k [] = drop-replicate (suc n) k 0 ∙ ap (λ j. replicate j 0) (let e : k - suc n ≡ k - (suc n - 0) = omega arith in e)
drop-padded (suc n) k (b ∷ bits) = drop-padded n k bits ∙ ap (λ j. drop n bits ++ replicate j 0) (let e : k - (n - length bits) ≡ k - (suc n - suc (length bits)) = omega arith in e)

-- zeros bytes_behind the bits are as bits that are missing
pub bytes_of-padded : (n k : ℕ) (bits : List ℕ) → bytes_from_bits n (bits ++ replicate k 0) ≡ bytes_from_bits n bits
bytes_of-padded zero k bits = refl
bytes_of-padded (suc n) k bits =
    ap (λ x. x ∷ bytes_from_bits n (drop 8 (bits ++ replicate k 0))) (number_of-padded 8 k bits)
    ∙ ap (λ xs. number_of (take 8 bits) ∷ bytes_from_bits n xs) (drop-padded 8 k bits)
    ∙ ap (λ xs. number_of (take 8 bits) ∷ xs) (bytes_of-padded n (k - (8 - length bits)) (drop 8 bits))

-- bytes that hold these bits, and then fewer than eight zeros
pub packed_is : (bytes bits : List ℕ) (spare : ℕ) → ((i : ℕ) → get_or bytes i 0 < 256) → bits_of bytes ≡ bits ++ replicate spare 0 → spare < 8 → bytes ≡ packing bits
packed_is bytes bits spare fits e h =
    let l : 8 * length bytes ≡ length bits + spare = sym (length-bits_of bytes) ∙ ap length e ∙ length-append bits (replicate spare 0) ∙ ap (λ n. length bits + n) (length-replicate spare 0) in
    let n : length bytes ≡ (length bits + 7) / 8 = omega arith in
    sym (bytes_of-bits_of bytes fits) ∙ ap (bytes_from_bits (length bytes)) e ∙ bytes_of-padded (length bytes) spare bits ∙ ap (λ k. bytes_from_bits k bits) n

-- a byte in front of bits
pub packed_one : (b : ℕ) (bits : List ℕ) → b < 256 → packing (low_bits 8 b ++ bits) ≡ b ∷ packing bits
packed_one b bits h =
    let l : length (low_bits 8 b ++ bits) ≡ 8 + length bits = length-append (low_bits 8 b) bits ∙ ap (λ n. n + length bits) (length-low_bits 8 b) in
    let e : (length (low_bits 8 b ++ bits) + 7) / 8 ≡ suc ((length bits + 7) / 8) = omega arith in
    let t = take_at (low_bits 8 b) bits 8 (length-low_bits 8 b) in
    let d = drop_at (low_bits 8 b) bits 8 (length-low_bits 8 b) in
    ap (λ n. bytes_from_bits n (low_bits 8 b ++ bits)) e
    ∙ ap (λ xs. number_of xs ∷ bytes_from_bits ((length bits + 7) / 8) (drop 8 (low_bits 8 b ++ bits))) t
    ∙ ap (λ xs. number_of (low_bits 8 b) ∷ bytes_from_bits ((length bits + 7) / 8) xs) d
    ∙ ap (λ x. x ∷ packing bits) (number_of-byte 8 b h)

-- bytes, packing again
pub packed_bytes : (bytes : List ℕ) → ((i : ℕ) → get_or bytes i 0 < 256) → packing (bits_of bytes) ≡ bytes
packed_bytes bytes fits = sym (packed_is bytes (bits_of bytes) 0 fits (sym (append-nil (bits_of bytes))) (omega arith))

-- fields side by side are one field
pub joined_fields : (at k n : ℕ) (bits : List ℕ) → flat_map (λ part. field (at + part * k) k bits) (range_with_len 0 n) ≡ field at (n * k) bits
joined_fields at k zero bits = ap (λ m. field at m bits) (let e : 0 ≡ 0 * k = omega arith in e)
joined_fields at k (suc n) bits =
    ap (λ m. flat_map (λ part. field (at + part * k) k bits) (range_with_len 0 m)) (let e : suc n ≡ n + 1 = omega arith in e)
    ∙ flat_more (λ part. field (at + part * k) k bits) n
    ∙ ap (λ xs. xs ++ field (at + n * k) k bits) (joined_fields at k n bits)
    ∙ field_more at (n * k) k bits
    ∙ ap (λ m. field at m bits) (let e : n * k + k ≡ suc n * k = omega arith in e)

-- components side by side are the bytes' bits
pub joined_components : (size n : ℕ) (bytes : List ℕ) → flat_map (component_bits size bytes) (range_with_len 0 n) ≡ bits_of (take (n * size) bytes)
joined_components size zero bytes = ap (λ m. bits_of (take m bytes)) (let e : 0 ≡ 0 * size = omega arith in e)
joined_components size (suc n) bytes =
    ap (λ m. flat_map (component_bits size bytes) (range_with_len 0 m)) (let e : suc n ≡ n + 1 = omega arith in e)
    ∙ flat_more (component_bits size bytes) n
    ∙ ap (λ xs. xs ++ component_bits size bytes n) (joined_components size n bytes)
    ∙ sym (flat_map-append (low_bits 8) (take (n * size) bytes) (take size (drop (n * size) bytes)))
    ∙ ap bits_of (sym (take-add (n * size) size bytes))
    ∙ ap (λ m. bits_of (take m bytes)) (let e : n * size + size ≡ suc n * size = omega arith in e)

pub flat_map_same : (f g : ℕ → List ℕ) → ((i : ℕ) → f i ≡ g i) → (xs : List ℕ) → flat_map f xs ≡ flat_map g xs
flat_map_same f g h [] = refl
flat_map_same f g h (x ∷ xs) = ap (λ ys. ys ++ flat_map f xs) (h x) ∙ ap (λ ys. g x ++ ys) (flat_map_same f g h xs)

pub component-len : (size : ℕ) (bytes : List ℕ) (part : ℕ) → length (component_bits size bytes part) ≤ 8 * size
component-len size bytes part =
    omega (arith, length-bits_of (take size (drop (part * size) bytes)), length-take size (drop (part * size) bytes))
