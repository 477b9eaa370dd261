-- Lists of bits, and pieces of one length.
use Rattle.std.proofs.Common.{◌≡◌, ℕ, zero, suc, ◌+◌, ◌-◌, ◌*◌, ◌/◌, ◌%◌, ◌^◌, ◌<◌, ◌≤◌, List, [], ◌∷◌, ◌++◌, Bool, true, false, length, take, drop, replicate, get_or, arith, refl, ap, sym, ◌∙◌, lit<}
use Rattle.std.specs.List.{flat_map, range_with_len}
use Rattle.std.proofs.lemmas.List.{append_assoc, append-nil, length-append, length-drop, length-take, length-take-le, take_at, drop_at, take_all, drop_all, take-append-drop, replicate-append-replicate}
use Rattle.std.proofs.lemmas.Nat.{pow_pos}
use Rattle.std.proofs.lemmas.Bool.{cases_lt}
use Rattle.std.proofs.Math.Nat.{pow-suc}
use Rattle.std.proofs.Common.{inl, inr}
use Rattle.zarrs_packbits.specs.Bits.{low_bits, bits_of, field}
use Rattle.zarrs_packbits.specs.KeptBits.{top_of, full_component}
use Rattle.zarrs_packbits.specs.Packing.{number_of, bytes_from_bits, packing}
use Rattle.zarrs_packbits.proofs.FieldLemmas.{flat_more}

abbrev pub AreBits : List ℕ → Type 0
AreBits [] = Unit {0}
AreBits (b ∷ bs) = (b < 2) × AreBits bs

pub are_bits-append : (xs ys : List ℕ) → AreBits xs → AreBits ys → AreBits (xs ++ ys)
are_bits-append [] ys h k = k
are_bits-append (x ∷ xs) ys h k = (h.0, are_bits-append xs ys h.1 k)

pub are_bits-take : (n : ℕ) (xs : List ℕ) → AreBits xs → AreBits (take n xs)
are_bits-take zero xs h = tt
are_bits-take (suc n) [] h = tt
are_bits-take (suc n) (x ∷ xs) h = (h.0, are_bits-take n xs h.1)

pub are_bits-drop : (n : ℕ) (xs : List ℕ) → AreBits xs → AreBits (drop n xs)
are_bits-drop zero xs h = h
are_bits-drop (suc n) [] h = tt
are_bits-drop (suc n) (x ∷ xs) h = are_bits-drop n xs h.1

pub are_bits-replicate : (n b : ℕ) → b < 2 → AreBits (replicate n b)
are_bits-replicate zero b h = tt
are_bits-replicate (suc n) b h = (h, are_bits-replicate n b h)

pub are_bits-low_bits : (n v : ℕ) → AreBits (low_bits n v)
are_bits-low_bits zero v = tt
are_bits-low_bits (suc n) v = (omega arith, are_bits-low_bits n (v / 2))

pub are_bits-flat_map : (f : ℕ → List ℕ) (xs : List ℕ) → ((x : ℕ) → AreBits (f x)) → AreBits (flat_map f xs)
are_bits-flat_map f [] h = tt
are_bits-flat_map f (x ∷ xs) h = are_bits-append (f x) (flat_map f xs) (h x) (are_bits-flat_map f xs h)

pub are_bits-bits_of : (bytes : List ℕ) → AreBits (bits_of bytes)
are_bits-bits_of bytes = are_bits-flat_map (low_bits 8) bytes (are_bits-low_bits 8)

pub bit_small : (xs : List ℕ) (i : ℕ) → AreBits xs → get_or xs i 0 < 2
bit_small [] i h = lit< tt
bit_small (x ∷ xs) zero h = h.0
bit_small (x ∷ xs) (suc i) h = bit_small xs i h.1

top_small : (sign : Bool) (kept : List ℕ) → AreBits kept → top_of sign kept < 2
top_small true kept h = bit_small kept (length kept - 1) h
top_small false kept h = lit< tt

pub are_bits-widened : (first above : ℕ) (sign : Bool) (kept : List ℕ) → AreBits kept → AreBits (full_component first above sign kept)
are_bits-widened first above sign kept h =
    are_bits-append (replicate first 0) (kept ++ replicate above (top_of sign kept)) (are_bits-replicate first 0 (lit< tt))
    (are_bits-append kept (replicate above (top_of sign kept)) h (are_bits-replicate above (top_of sign kept) (top_small sign kept h)))

pub are_bits-field : (at count : ℕ) (bits : List ℕ) → AreBits bits → AreBits (field at count bits)
are_bits-field at count bits h = are_bits-take count (drop at bits) (are_bits-drop at bits h)

-- ---- bits as bytes, and back

low_bits-number : (n : ℕ) (bits : List ℕ) → AreBits bits → length bits ≤ n → low_bits n (number_of bits) ≡ bits ++ replicate (n - length bits) 0
low_bits-number n [] h l = low_bits-none n ∙ ap (λ k. replicate k 0) (let e : n ≡ n - 0 = omega arith in e)
  where
    low_bits-none : (n : ℕ) → low_bits n 0 ≡ replicate n 0
    low_bits-none zero = refl
    low_bits-none (suc n) = ap (λ ns. 0 ∷ ns) (low_bits-none n)
low_bits-number zero (b ∷ bits) h l = absurd (omega arith)
low_bits-number (suc n) (b ∷ bits) h l =
    let small : b < 2 = h.0 in
    let m = number_of bits in
    let odd : (b + 2 * m) % 2 ≡ b = omega arith in
    let half : (b + 2 * m) / 2 ≡ m = omega arith in
    ap (λ x. x ∷ low_bits n ((b + 2 * m) / 2)) odd ∙ ap (λ x. b ∷ low_bits n x) half ∙ ap (λ xs. b ∷ xs) (low_bits-number n bits h.1 (omega arith))
    ∙ ap (λ k. (b ∷ bits) ++ replicate k 0) (let e : n - length bits ≡ suc n - suc (length bits) = omega arith in e)

pub bits_of-bytes_of : (n : ℕ) (bits : List ℕ) → AreBits bits → length bits ≤ 8 * n → bits_of (bytes_from_bits n bits) ≡ bits ++ replicate (8 * n - length bits) 0
bits_of-bytes_of zero [] h l = refl
bits_of-bytes_of zero (b ∷ bits) h l = absurd (omega arith)
bits_of-bytes_of (suc n) bits h l =
    let rest = drop 8 bits in
    let here = low_bits-number 8 (take 8 bits) (are_bits-take 8 bits h) (omega (arith, length-take 8 bits)) in
    let there = bits_of-bytes_of n rest (are_bits-drop 8 bits h) (omega (arith, length-drop 8 bits)) in
    ap (λ xs. xs ++ bits_of (bytes_from_bits n rest)) here
    ∙ ap (λ xs. (take 8 bits ++ replicate (8 - length (take 8 bits)) 0) ++ xs) there
    ∙ joined n bits l
  where
    short : (k n : ℕ) (bits : List ℕ) → length bits ≤ k → (take k bits ++ replicate (k - length (take k bits)) 0) ++ (drop k bits ++ replicate (n - length (drop k bits)) 0) ≡ bits ++ replicate (k + n - length bits) 0
    short k n bits h =
        let t = take_all k bits h in
        let d : drop k bits ≡ [] = drop_all k bits h in
        ap (λ xs. (xs ++ replicate (k - length xs) 0) ++ (drop k bits ++ replicate (n - length (drop k bits)) 0)) t
        ∙ ap (λ xs. (bits ++ replicate (k - length bits) 0) ++ (xs ++ replicate (n - length xs) 0)) d
        ∙ append_assoc bits (replicate (k - length bits) 0) (replicate (n - 0) 0)
        ∙ ap (λ xs. bits ++ xs) (replicate-append-replicate (k - length bits) (n - 0) 0)
        ∙ ap (λ j. bits ++ replicate j 0) (let e : (k - length bits) + (n - 0) ≡ k + n - length bits = omega arith in e)

    long : (k n : ℕ) (bits : List ℕ) → k ≤ length bits → (take k bits ++ replicate (k - length (take k bits)) 0) ++ (drop k bits ++ replicate (n - length (drop k bits)) 0) ≡ bits ++ replicate (k + n - length bits) 0
    long k n bits h =
        let t : length (take k bits) ≡ k = length-take-le k bits h in
        let d = length-drop k bits in
        let z : replicate (k - length (take k bits)) 0 ≡ [] = ap (λ j. replicate j 0) (let e : k - length (take k bits) ≡ 0 = omega arith in e) in
        ap (λ xs. (take k bits ++ xs) ++ (drop k bits ++ replicate (n - length (drop k bits)) 0)) z
        ∙ ap (λ xs. xs ++ (drop k bits ++ replicate (n - length (drop k bits)) 0)) (append-nil (take k bits))
        ∙ sym (append_assoc (take k bits) (drop k bits) (replicate (n - length (drop k bits)) 0))
        ∙ ap (λ xs. xs ++ replicate (n - length (drop k bits)) 0) (take-append-drop k bits)
        ∙ ap (λ j. bits ++ replicate j 0) (let e : n - length (drop k bits) ≡ k + n - length bits = omega arith in e)

    joined : (n : ℕ) (bits : List ℕ) → length bits ≤ 8 * suc n → (take 8 bits ++ replicate (8 - length (take 8 bits)) 0) ++ (drop 8 bits ++ replicate (8 * n - length (drop 8 bits)) 0) ≡ bits ++ replicate (8 * suc n - length bits) 0
    joined n bits l =
        let e : 8 * suc n ≡ 8 + 8 * n = omega arith in
        elim (cases_lt (length bits) 8) [ inl h ↦ short 8 (8 * n) bits (omega arith) | inr h ↦ long 8 (8 * n) bits h ] ∙ ap (λ j. bits ++ replicate (j - length bits) 0) (sym e)

pub bits_of-packed : (bits : List ℕ) → AreBits bits → bits_of (packing bits) ≡ bits ++ replicate (8 * ((length bits + 7) / 8) - length bits) 0
bits_of-packed bits h = bits_of-bytes_of ((length bits + 7) / 8) bits h (omega arith)

-- without spare bits
pub bits_of-full : (n : ℕ) (bits : List ℕ) → AreBits bits → length bits ≡ 8 * n → bits_of (packing bits) ≡ bits
bits_of-full n bits h e =
    bits_of-packed bits h ∙ ap (λ k. bits ++ replicate k 0) (let z : 8 * ((length bits + 7) / 8) - length bits ≡ 0 = omega arith in z) ∙ append-nil bits

pub length-bytes_of : (n : ℕ) (bits : List ℕ) → length (bytes_from_bits n bits) ≡ n
length-bytes_of zero bits = refl
length-bytes_of (suc n) bits = ap suc (length-bytes_of n (drop 8 bits))

number_small : (n : ℕ) (bits : List ℕ) → AreBits bits → length bits ≤ n → number_of bits < 2 ^ n
number_small n [] h l = pow_pos n
number_small zero (b ∷ bits) h l = absurd (omega arith)
number_small (suc n) (b ∷ bits) h l =
    let small : b < 2 = h.0 in
    omega (arith, number_small n bits h.1 (omega arith), pow-suc 2 n)

pub bytes_of-small : (n : ℕ) (bits : List ℕ) → AreBits bits → (i : ℕ) → get_or (bytes_from_bits n bits) i 0 < 256
bytes_of-small zero bits h i = lit< tt
bytes_of-small (suc n) bits h zero = number_small 8 (take 8 bits) (are_bits-take 8 bits h) (omega (arith, length-take 8 bits))
bytes_of-small (suc n) bits h (suc i) = bytes_of-small n (drop 8 bits) (are_bits-drop 8 bits h) i

-- ---- pieces of one length

pub length-pieces : (f : ℕ → List ℕ) (k n : ℕ) → ((i : ℕ) → i < n → length (f i) ≡ k) → length (flat_map f (range_with_len 0 n)) ≡ n * k
length-pieces f k zero h = omega arith
length-pieces f k (suc n) h =
    let e : suc n ≡ n + 1 = omega arith in
    ap (λ m. length (flat_map f (range_with_len 0 m))) e ∙ ap length (flat_more f n) ∙ length-append (flat_map f (range_with_len 0 n)) (f n)
    ∙ omega (arith, length-pieces f k n (λ i lt. h i (omega arith)), h n (omega arith))

-- the piece with a number
pub piece_is : (f : ℕ → List ℕ) (k n : ℕ) (rest : List ℕ) (i : ℕ) → ((j : ℕ) → j < n → length (f j) ≡ k) → i < n → field (i * k) k (flat_map f (range_with_len 0 n) ++ rest) ≡ f i
piece_is f k zero rest i h lt = absurd (omega arith)
piece_is f k (suc n) rest i h lt =
    let front = flat_map f (range_with_len 0 n) in
    let e : suc n ≡ n + 1 = omega arith in
    let below : (j : ℕ) → j < n → length (f j) ≡ k = λ j q. h j (omega arith) in
    let split = ap (λ m. flat_map f (range_with_len 0 m) ++ rest) e ∙ ap (λ xs. xs ++ rest) (flat_more f n) ∙ append_assoc front (f n) rest in
    ap (field (i * k) k) split ∙ (elim (cases_lt i n) [
      | inl q ↦ piece_is f k n (f n ++ rest) i below q
      | inr q ↦ (let same : i ≡ n = omega arith in
          ap (λ j. field (j * k) k (front ++ (f n ++ rest))) same
          ∙ ap (take k) (drop_at front (f n ++ rest) (n * k) (length-pieces f k n below))
          ∙ take_at (f n) rest k (h n (omega arith)) ∙ ap f (sym same))
    ])
