-- Components of one byte each, made of the fields of bytes.
use Rattle.std.proofs.Common.{◌≡◌, ℕ, zero, suc, ◌+◌, ◌-◌, ◌*◌, ◌/◌, ◌%◌, ◌^◌, ◌<◌, ◌≤◌, List, [], ◌∷◌, ◌++◌, length, map, take, drop, get_or, set, arith, refl, ap, sym, subst, ◌∙◌}
use Rattle.std.specs.List.{flat_map, range_with_len, take-map}
use Rattle.std.specs.Prelude.{bit_or}
use Rattle.std.proofs.Math.Seq.{take-add}
use Rattle.std.proofs.lemmas.Nat.{pow_pos, mod_below, shl_whole, or_comm, or_shifted}
use Rattle.std.proofs.lemmas.List.{drop_more, get_or-drop, append-nil, append_assoc, take_at, drop_at, drop-take, drop-drop, take-take, take_all, take-append-le, take-append-drop, length-append, length-drop, length-take-le, length-set, take_more, take_more_set, take_rest, map-append}
use Rattle.std.proofs.lemmas.List.Concat.{flat_map-append}
use Rattle.zarrs_packbits.specs.Bits.{low_bits, bits_of, field}
use Rattle.zarrs_packbits.specs.BitStream.{components_from}
use Rattle.zarrs_packbits.specs.BlockBits.{fields_of, lifted_byte}
use Rattle.zarrs_packbits.specs.KeptBits.{component_bits, full_component, sign_weight}
use Rattle.zarrs_packbits.specs.declared.layout.PackedLayout.{PackedLayout}
use Rattle.zarrs_packbits.proofs.FieldLemmas.{flat_more, flat_map_same}
use Rattle.zarrs_packbits.proofs.ElementBits.{flat_split}
use Rattle.zarrs_packbits.proofs.LocalLemmas.{field_of_piece}
use Rattle.zarrs_packbits.proofs.LowBits.{low_bits-cat, length-low_bits, length-bits_of, low_bits-split, low_bits-mod, bits_of-drop, bits_of-take, bit_of-place}
use Rattle.zarrs_packbits.proofs.WordLemmas.{component_is, field_within, low_bits-take}

-- so many bits of a byte from bit `first` on, as a number
abbrev pub cut_byte : ℕ → ℕ → ℕ → ℕ
cut_byte first count byte = byte / 2 ^ first % 2 ^ count

-- numbers of so many bits
abbrev pub AreBelow : ℕ → List ℕ → Type 0
AreBelow c [] = Unit {0}
AreBelow c (x ∷ xs) = (x < 2 ^ c) × AreBelow c xs

are_below-append : (c : ℕ) (xs ys : List ℕ) → AreBelow c xs → AreBelow c ys → AreBelow c (xs ++ ys)
are_below-append c [] ys h k = k
are_below-append c (x ∷ xs) ys h k = (h.0, are_below-append c xs ys h.1 k)

are_below-take : (c n : ℕ) (xs : List ℕ) → AreBelow c xs → AreBelow c (take n xs)
are_below-take c zero xs h = tt
are_below-take c (suc n) [] h = tt
are_below-take c (suc n) (x ∷ xs) h = (h.0, are_below-take c n xs h.1)

are_below-fields : (c n b : ℕ) → AreBelow c (fields_of c n b)
are_below-fields c zero b = tt
are_below-fields c (suc n) b = (mod_below b (2 ^ c) (pow_pos c), are_below-fields c n (b / 2 ^ c))

are_below-flat : (c n : ℕ) (bytes : List ℕ) → AreBelow c (flat_map (fields_of c n) bytes)
are_below-flat c n [] = tt
are_below-flat c n (b ∷ bytes) = are_below-append c (fields_of c n b) (flat_map (fields_of c n) bytes) (are_below-fields c n b) (are_below-flat c n bytes)

-- the fields of a number are its bits
fields_bits : (c n b : ℕ) → flat_map (low_bits c) (fields_of c n b) ≡ low_bits (n * c) b
fields_bits c zero b = ap (λ m. low_bits m b) (let e : 0 ≡ 0 * c = omega arith in e)
fields_bits c (suc n) b =
    ap (λ (xs : List ℕ). xs ++ flat_map (low_bits c) (fields_of c n (b / 2 ^ c))) (low_bits-mod c b)
    ∙ ap (λ (xs : List ℕ). low_bits c b ++ xs) (fields_bits c n (b / 2 ^ c))
    ∙ sym (low_bits-split c (n * c) b)
    ∙ ap (λ m. low_bits m b) (let e : c + n * c ≡ suc n * c = omega arith in e)

flat_fields_bits : (c n : ℕ) (bytes : List ℕ) → n * c ≡ 8 → flat_map (low_bits c) (flat_map (fields_of c n) bytes) ≡ bits_of bytes
flat_fields_bits c n [] h = refl
flat_fields_bits c n (b ∷ bytes) h =
    flat_map-append (low_bits c) (fields_of c n b) (flat_map (fields_of c n) bytes)
    ∙ ap (λ (xs : List ℕ). xs ++ flat_map (low_bits c) (flat_map (fields_of c n) bytes)) (fields_bits c n b ∙ ap (λ m. low_bits m b) h)
    ∙ ap (λ (xs : List ℕ). low_bits 8 b ++ xs) (flat_fields_bits c n bytes h)

pub length-fields_of : (c n b : ℕ) → length (fields_of c n b) ≡ n
length-fields_of c zero b = refl
length-fields_of c (suc n) b = ap suc (length-fields_of c n (b / 2 ^ c))

pub length-flat_fields : (c n : ℕ) (bytes : List ℕ) → length (flat_map (fields_of c n) bytes) ≡ n * length bytes
length-flat_fields c n [] = omega arith
length-flat_fields c n (b ∷ bytes) =
    length-append (fields_of c n b) (flat_map (fields_of c n) bytes) ∙ omega (arith, length-fields_of c n b, length-flat_fields c n bytes)

-- the first numbers have the first bits
bits-take : (c k : ℕ) (xs : List ℕ) → k ≤ length xs → flat_map (low_bits c) (take k xs) ≡ take (k * c) (flat_map (low_bits c) xs)
bits-take c zero xs h = ap (λ m. take m (flat_map (low_bits c) xs)) (let e : 0 ≡ 0 * c = omega arith in e)
bits-take c (suc k) [] h = absurd (omega arith)
bits-take c (suc k) (x ∷ xs) h =
    let rest = flat_map (low_bits c) xs in
    ap (λ (ys : List ℕ). low_bits c x ++ ys) (bits-take c k xs (omega arith))
    ∙ sym (ap (λ m. take m (low_bits c x ++ rest)) (let e : suc k * c ≡ c + k * c = omega arith in e)
    ∙ take-add c (k * c) (low_bits c x ++ rest)
    ∙ ap (λ (ys : List ℕ). ys ++ take (k * c) (drop c (low_bits c x ++ rest))) (take_at (low_bits c x) rest c (length-low_bits c x))
    ∙ ap (λ (ys : List ℕ). low_bits c x ++ take (k * c) ys) (drop_at (low_bits c x) rest c (length-low_bits c x)))

-- components behind others
pub components_more : (l : PackedLayout) (at a b : ℕ) (bits : List ℕ) → components_from l at (a + b) bits ≡ components_from l at a bits ++ components_from l (at + a * l.count) b bits
components_more l at a b bits =
    let f : ℕ → List ℕ = λ part. full_component l.first l.above l.sign (field (at + part * l.count) l.count bits) in
    let g : ℕ → List ℕ = λ part. full_component l.first l.above l.sign (field (at + a * l.count + part * l.count) l.count bits) in
    flat_split f a b
    ∙ ap (λ (xs : List ℕ). components_from l at a bits ++ xs) (flat_map_same (λ j. f (a + j)) g
    (λ j. ap (λ n. full_component l.first l.above l.sign (field n l.count bits)) (let e : at + (a + j) * l.count ≡ at + a * l.count + j * l.count = omega arith in e))
    (range_with_len 0 b))

-- those of the bytes behind a place
pub components_behind : (l : PackedLayout) (s n : ℕ) (bytes : List ℕ) → components_from l 0 n (bits_of (drop s bytes)) ≡ components_from l (8 * s) n (bits_of bytes)
components_behind l s n bytes =
    flat_map_same (λ part. full_component l.first l.above l.sign (field (0 + part * l.count) l.count (bits_of (drop s bytes)))) (λ part. full_component l.first l.above l.sign (field (8 * s + part * l.count) l.count (bits_of bytes)))
    (λ j. ap (λ (xs : List ℕ). full_component l.first l.above l.sign (take l.count xs)) (ap (drop (0 + j * l.count)) (bits_of-drop s bytes) ∙ drop-drop (0 + j * l.count) (8 * s) (bits_of bytes)
    ∙ ap (λ n. drop n (bits_of bytes)) (let e : 8 * s + (0 + j * l.count) ≡ 8 * s + j * l.count = omega arith in e)))
    (range_with_len 0 n)

-- bytes made of kept bits are components
pub components_of_fields : (l : PackedLayout) (xs : List ℕ) (at : ℕ) (bits : List ℕ) → 0 < l.count → l.first + l.count + l.above ≡ 8 → AreBelow l.count xs → flat_map (low_bits l.count) xs ≡ field at (length xs * l.count) bits
    → bits_of (map (lifted_byte l.first (sign_weight l.sign l.count)) xs) ≡ components_from l at (length xs) bits
components_of_fields l [] at bits some size below e = refl
components_of_fields l (x ∷ xs) at bits some size below e =
    let c = l.count in
    let n = length xs in
    let weight = sign_weight l.sign c in
    let y = lifted_byte l.first weight x in
    let rest = flat_map (low_bits c) xs in
    let long = length-low_bits c x in
    let sum : suc n * c ≡ c + n * c = omega arith in
    let here : low_bits c x ≡ field at c bits
    = sym (take_at (low_bits c x) rest c long) ∙ ap (take c) (e ∙ ap (λ m. take m (drop at bits)) sum) ∙ take-take c (c + n * c) (drop at bits) (omega arith) in
    let there : rest ≡ field (at + c) (n * c) bits
    = sym (drop_at (low_bits c x) rest c long) ∙ ap (drop c) (e ∙ ap (λ m. take m (drop at bits)) sum) ∙ drop-take c (n * c) (drop at bits) ∙ ap (take (n * c)) (drop-drop c at bits) in
    let first : low_bits 8 y ≡ components_from l at 1 bits
    = ap (λ m. low_bits m y) (sym size) ∙ component_is 8 l.first c l.above x l.sign some (omega arith) below.0
    ∙ ap (full_component l.first l.above l.sign) (here ∙ ap (λ m. field m c bits) (let d : at ≡ at + 0 * c = omega arith in d))
    ∙ sym (append-nil (full_component l.first l.above l.sign (field (at + 0 * c) c bits))) in
    ap (λ (zs : List ℕ). zs ++ bits_of (map (lifted_byte l.first weight) xs)) first
    ∙ ap (λ (zs : List ℕ). components_from l at 1 bits ++ zs) (components_of_fields l xs (at + c) bits some size below.1 there)
    ∙ ap (λ m. components_from l at 1 bits ++ components_from l m n bits) (let d : at + c ≡ at + 1 * c = omega arith in d)
    ∙ sym (components_more l at 1 n bits)
    ∙ ap (λ m. components_from l at m bits) (let d : 1 + n ≡ suc n = omega arith in d)

-- the first ones of a block, whose bytes begin with these
pub block_is : (l : PackedLayout) (c m left s n : ℕ) (from bytes zeros : List ℕ) → l.count ≡ c → m * c ≡ 8 → 0 < c → l.first + l.count + l.above ≡ 8 → from ≡ take left (drop s bytes) ++ zeros → s + left ≤ length bytes → n * c ≤ 8 * left → n ≤ m * length from
    → bits_of (take n (map (lifted_byte l.first (sign_weight l.sign l.count)) (flat_map (fields_of c m) from))) ≡ components_from l (8 * s) n (bits_of bytes)
block_is l c m left s n from bytes zeros is whole some size begins within long short =
    let all = flat_map (fields_of c m) from in
    let xs = take n all in
    let count : length xs ≡ n = length-take-le n all (omega (arith, length-flat_fields c m from)) in
    let part = take left (drop s bytes) in
    let part_long : length part ≡ left = length-take-le left (drop s bytes) (omega (arith, length-drop s bytes)) in
    let held : flat_map (low_bits c) xs ≡ field (8 * s) (n * c) (bits_of bytes)
    = bits-take c n all (omega (arith, length-flat_fields c m from))
    ∙ ap (take (n * c)) (flat_fields_bits c m from whole ∙ ap bits_of begins ∙ flat_map-append (low_bits 8) part zeros)
    ∙ take-append-le (n * c) (bits_of part) (bits_of zeros) (omega (arith, length-bits_of part))
    ∙ ap (take (n * c)) (bits_of-take left (drop s bytes) (omega (arith, length-drop s bytes)))
    ∙ take-take (n * c) (8 * left) (bits_of (drop s bytes)) long
    ∙ ap (take (n * c)) (bits_of-drop s bytes) in
    let there : flat_map (low_bits l.count) xs ≡ field (8 * s) (length xs * l.count) (bits_of bytes)
    = ap (λ k. flat_map (low_bits k) xs) is ∙ held ∙ ap (λ k. field (8 * s) k (bits_of bytes)) (let e : n * c ≡ length xs * l.count = rw (count, is) refl in e) in
    let below : AreBelow l.count xs = rw is (are_below-take c n all (are_below-flat c m from)) in
    ap bits_of (take-map (lifted_byte l.first (sign_weight l.sign l.count)) n all)
    ∙ components_of_fields l xs (8 * s) (bits_of bytes) (omega arith) size below there
    ∙ ap (λ k. components_from l (8 * s) k (bits_of bytes)) count

-- ---- blocks, a place at a time

bits_fields : (n b : ℕ) → low_bits n b ≡ fields_of 1 n b
bits_fields zero b = refl
bits_fields (suc n) b = ap (λ (xs : List ℕ). b % 2 ∷ xs) (bits_fields n (b / 2))

bytes_fields : (bytes : List ℕ) → bits_of bytes ≡ flat_map (fields_of 1 8) bytes
bytes_fields [] = refl
bytes_fields (b ∷ bytes) = ap (λ (xs : List ℕ). xs ++ bits_of bytes) (bits_fields 8 b) ∙ ap (λ (xs : List ℕ). fields_of 1 8 b ++ xs) (bytes_fields bytes)

pub spread_done : (to from : List ℕ) → length to ≡ 64 → length from ≡ 8 → take 64 to ≡ take 64 (bits_of from) → to ≡ flat_map (fields_of 1 8) from
spread_done to from l k e =
    sym (take_all 64 to (omega arith)) ∙ e ∙ take_all 64 (bits_of from) (omega (arith, length-bits_of from)) ∙ bytes_fields from

pub spread_more : (to from : List ℕ) (p a : ℕ) → length to ≡ 64 → length from ≡ 8 → p < 64 → take p to ≡ take p (bits_of from) → a ≡ get_or from (p / 8) 0 / 2 ^ (p % 8) % 2 → take (p + 1) (set to p a) ≡ take (p + 1) (bits_of from)
spread_more to from p a l k lt e is =
    take_more_set to p a (omega arith)
    ∙ ap (λ (xs : List ℕ). xs ++ a ∷ []) e
    ∙ ap (λ x. take p (bits_of from) ++ x ∷ []) (is ∙ sym (bit_of-place from p (omega arith)))
    ∙ sym (take_more (bits_of from) p 0 (omega (arith, length-bits_of from)))

flat_take_more : (f : ℕ → List ℕ) (xs : List ℕ) (i : ℕ) → i < length xs → flat_map f (take (i + 1) xs) ≡ flat_map f (take i xs) ++ f (get_or xs i 0)
flat_take_more f xs i h =
    ap (flat_map f) (take_more xs i 0 h) ∙ flat_map-append f (take i xs) (get_or xs i 0 ∷ []) ∙ ap (λ (ys : List ℕ). flat_map f (take i xs) ++ ys) (append-nil (f (get_or xs i 0)))

pub halves_more : (to from : List ℕ) (p a b : ℕ) → length to ≡ 128 → length from ≡ 64 → p < 64 → take (2 * p) to ≡ flat_map (fields_of 4 2) (take p from) → a ≡ get_or from p 0 % 2 ^ 4 → b ≡ get_or from p 0 / 2 ^ 4 % 2 ^ 4
    → take (2 * (p + 1)) (set (set to (2 * p) a) (2 * p + 1) b) ≡ flat_map (fields_of 4 2) (take (p + 1) from)
halves_more to from p a b l k lt e isa isb =
    let once = set to (2 * p) a in
    ap (λ n. take n (set once (2 * p + 1) b)) (let d : 2 * (p + 1) ≡ (2 * p + 1) + 1 = omega arith in d)
    ∙ take_more_set once (2 * p + 1) b (omega (arith, length-set to (2 * p) a))
    ∙ ap (λ (xs : List ℕ). xs ++ b ∷ []) (take_more_set to (2 * p) a (omega arith) ∙ ap (λ (xs : List ℕ). xs ++ a ∷ []) e)
    ∙ append_assoc (flat_map (fields_of 4 2) (take p from)) (a ∷ []) (b ∷ [])
    ∙ ap (λ x. flat_map (fields_of 4 2) (take p from) ++ x ∷ b ∷ []) isa
    ∙ ap (λ x. flat_map (fields_of 4 2) (take p from) ++ get_or from p 0 % 2 ^ 4 ∷ x ∷ []) isb
    ∙ sym (flat_take_more (fields_of 4 2) from p (omega arith))

pub quarters_more : (to from : List ℕ) (p a b c d : ℕ) → length to ≡ 64 → length from ≡ 16 → p < 16 → take (4 * p) to ≡ flat_map (fields_of 2 4) (take p from) → a ≡ get_or from p 0 % 2 ^ 2 → b ≡ get_or from p 0 / 2 ^ 2 % 2 ^ 2 → c ≡ get_or from p 0 / 2 ^ 2 / 2 ^ 2 % 2 ^ 2 → d ≡ get_or from p 0 / 2 ^ 2 / 2 ^ 2 / 2 ^ 2 % 2 ^ 2
    → take (4 * (p + 1)) (set (set (set (set to (4 * p) a) (4 * p + 1) b) (4 * p + 2) c) (4 * p + 3) d) ≡ flat_map (fields_of 2 4) (take (p + 1) from)
quarters_more to from p a b c d l k lt e isa isb isc isd =
    let one = set to (4 * p) a in
    let two = set one (4 * p + 1) b in
    let three = set two (4 * p + 2) c in
    let front = flat_map (fields_of 2 4) (take p from) in
    let byte = get_or from p 0 in
    let l1 = length-set to (4 * p) a in
    let l2 = length-set one (4 * p + 1) b in
    let l3 = length-set two (4 * p + 2) c in
    ap (λ n. take n (set three (4 * p + 3) d)) (let q : 4 * (p + 1) ≡ (4 * p + 3) + 1 = omega arith in q)
    ∙ take_more_set three (4 * p + 3) d (omega arith)
    ∙ ap (λ (xs : List ℕ). xs ++ d ∷ []) (
    ap (λ n. take n three) (let q : 4 * p + 3 ≡ (4 * p + 2) + 1 = omega arith in q) ∙ take_more_set two (4 * p + 2) c (omega arith)
    ∙ ap (λ (xs : List ℕ). xs ++ c ∷ []) (
    ap (λ n. take n two) (let q : 4 * p + 2 ≡ (4 * p + 1) + 1 = omega arith in q) ∙ take_more_set one (4 * p + 1) b (omega arith)
    ∙ ap (λ (xs : List ℕ). xs ++ b ∷ []) (take_more_set to (4 * p) a (omega arith) ∙ ap (λ (xs : List ℕ). xs ++ a ∷ []) e)))
    ∙ ap (λ (xs : List ℕ). (xs ++ c ∷ []) ++ d ∷ []) (append_assoc front (a ∷ []) (b ∷ []))
    ∙ ap (λ (xs : List ℕ). xs ++ d ∷ []) (append_assoc front (a ∷ b ∷ []) (c ∷ []))
    ∙ append_assoc front (a ∷ b ∷ c ∷ []) (d ∷ [])
    ∙ ap (λ x. front ++ x ∷ b ∷ c ∷ d ∷ []) isa
    ∙ ap (λ x. front ++ byte % 2 ^ 2 ∷ x ∷ c ∷ d ∷ []) isb
    ∙ ap (λ x. front ++ byte % 2 ^ 2 ∷ byte / 2 ^ 2 % 2 ^ 2 ∷ x ∷ d ∷ []) isc
    ∙ ap (λ x. front ++ byte % 2 ^ 2 ∷ byte / 2 ^ 2 % 2 ^ 2 ∷ byte / 2 ^ 2 / 2 ^ 2 % 2 ^ 2 ∷ x ∷ []) isd
    ∙ sym (flat_take_more (fields_of 2 4) from p (omega arith))

pub map_more : (f : ℕ → ℕ) (to from : List ℕ) (p : ℕ) → p < length to → p < length from → take p to ≡ map f (take p from) → take (p + 1) (set to p (f (get_or from p 0))) ≡ map f (take (p + 1) from)
map_more f to from p h k e =
    take_more_set to p (f (get_or from p 0)) h
    ∙ ap (λ (xs : List ℕ). xs ++ f (get_or from p 0) ∷ []) e
    ∙ sym (map-append f (take p from) (get_or from p 0 ∷ []))
    ∙ ap (map f) (sym (take_more from p 0 k))

-- ---- blocks behind one another

pub last_step : (l : PackedLayout) (c m left n : ℕ) (new block from bytes : List ℕ) → l.count ≡ c → m * c ≡ 8 → 0 < c → l.first + l.count + l.above ≡ 8 → block ≡ map (lifted_byte l.first (sign_weight l.sign l.count)) (flat_map (fields_of c m) from) → take left from ≡ take left bytes → left ≤ length bytes → n * c ≤ 8 * left → n ≤ m * length from → new ≡ take n block
    → bits_of new ≡ components_from l 0 n (bits_of bytes)
last_step l c m left n new block from bytes is whole some size made begins within long short written =
    let rest = drop left from in
    ap bits_of (written ∙ ap (take n) made)
    ∙ block_is l c m left 0 n from bytes rest is whole some size (sym (take-append-drop left from) ∙ ap (λ (xs : List ℕ). xs ++ rest) begins) (omega arith) long short

pub final_step : (l : PackedLayout) (at w r s parts : ℕ) (front piece all bytes : List ℕ) → parts ≡ w + r → 8 * s ≡ at + w * l.count → all ≡ front ++ piece
    → bits_of front ≡ components_from l at w (bits_of bytes) → bits_of piece ≡ components_from l 0 r (bits_of (take (length bytes - s) (drop s bytes)))
    → bits_of all ≡ components_from l at parts (bits_of bytes)
final_step l at w r s parts front piece all bytes sum place joined before added =
    let bits = bits_of bytes in
    ap bits_of joined
    ∙ flat_map-append (low_bits 8) front piece
    ∙ ap (λ (xs : List ℕ). xs ++ bits_of piece) before
    ∙ ap (λ (xs : List ℕ). components_from l at w bits ++ xs) (added ∙ ap (λ (xs : List ℕ). components_from l 0 r (bits_of xs)) (take_rest bytes s) ∙ components_behind l s r bytes ∙ ap (λ k. components_from l k r bits) place)
    ∙ sym (components_more l at w r bits)
    ∙ ap (λ k. components_from l at k bits) (sym sum)

-- where a block's bytes begin, its kept bits do
pub place_of_block : (l : PackedLayout) (count room len b : ℕ) → l.count ≡ count → room * count ≡ 8 * len → 8 * (len * b) ≡ 0 + room * b * l.count
place_of_block l count room len b is whole =
    let all : 8 * len * b ≡ room * count * b = ap (λ n. n * b) (sym whole) in
    let same : room * b * l.count ≡ room * b * count = ap (λ n. room * b * n) is in
    omega (arith, all, same)

-- ---- packing

flat_of_map : (f : ℕ → List ℕ) (g : ℕ → ℕ) (xs : List ℕ) → flat_map f (map g xs) ≡ flat_map (λ x. f (g x)) xs
flat_of_map f g [] = refl
flat_of_map f g (x ∷ xs) = ap (λ (ys : List ℕ). f (g x) ++ ys) (flat_of_map f g xs)

-- the kept bits of a component of one byte
one_part : (bytes : List ℕ) (p first c : ℕ) → p < length bytes → first + c ≤ 8 → field first c (component_bits 1 bytes p) ≡ low_bits c (cut_byte first c (get_or bytes p 0))
one_part bytes p first c lt h =
    let byte = get_or bytes p 0 in
    let one : component_bits 1 bytes p ≡ low_bits 8 byte
    = ap (λ n. bits_of (take 1 (drop n bytes))) (let e : p * 1 ≡ p = omega arith in e) ∙ ap (λ (b : List ℕ). bits_of (take 1 b)) (drop_more bytes p 0 lt) ∙ append-nil (low_bits 8 byte) in
    ap (field first c) one
    ∙ ap (λ n. field n c (low_bits 8 byte)) (let e : first ≡ 0 + first = omega arith in e)
    ∙ sym (field_within (low_bits 8 byte) 0 first c byte (sym (low_bits-take (first + c) 8 byte h)))

-- a component more of those in the first byte
head_more : (l : PackedLayout) (skip p x y : ℕ) (front all bytes : List ℕ) → 0 < l.count → l.first + l.count + l.above ≡ 8 → 0 < length bytes → (skip + p) * l.count + l.count ≤ 8 → x ≡ cut_byte ((skip + p) * l.count) l.count (get_or bytes 0 0) → y ≡ lifted_byte l.first (sign_weight l.sign l.count) x
    → bits_of front ≡ components_from l (skip * l.count) p (bits_of bytes) → all ≡ front ++ y ∷ [] → bits_of all ≡ components_from l (skip * l.count) (p + 1) (bits_of bytes)
head_more l skip p x y front all bytes some size filled room isx isy before added =
    let c = l.count in
    let bits = bits_of bytes in
    let first = l.first in
    let here = (skip + p) * c in
    let at = skip * c in
    let place : here ≡ at + p * c + 0 * c = omega arith in
    let below : x < 2 ^ c = rw isx (mod_below (get_or bytes 0 0 / 2 ^ here) (2 ^ c) (pow_pos c)) in
    let kept : low_bits c x ≡ field here c bits
    = ap (low_bits c) isx ∙ sym (one_part bytes 0 here c filled room) ∙ field_of_piece bytes 0 1 here c (omega arith) (omega arith) ∙ ap (λ n. field n c bits) (let e : 8 * 0 + here ≡ here = omega arith in e) in
    let byte : low_bits 8 y ≡ components_from l (at + p * c) 1 bits
    = ap (low_bits 8) isy ∙ ap (λ m. low_bits m (lifted_byte first (sign_weight l.sign c) x)) (sym size) ∙ component_is 8 first c l.above x l.sign some (omega arith) below
    ∙ ap (full_component first l.above l.sign) (kept ∙ ap (λ n. field n c bits) place)
    ∙ sym (append-nil (full_component first l.above l.sign (field (at + p * c + 0 * c) c bits))) in
    ap bits_of added
    ∙ flat_map-append (low_bits 8) front (y ∷ [])
    ∙ ap (λ (xs : List ℕ). xs ++ bits_of (y ∷ [])) before
    ∙ ap (λ (xs : List ℕ). components_from l at p bits ++ xs) (append-nil (low_bits 8 y) ∙ byte)
    ∙ sym (components_more l at p 1 bits)

pub head_step : (l : PackedLayout) (count skip p x y : ℕ) (front all bytes : List ℕ) → l.count ≡ count → 0 < l.count → l.first + l.count + l.above ≡ 8 → 0 < length bytes → (skip + p) * count + count ≤ 8 → x ≡ cut_byte ((skip + p) * count) count (get_or bytes 0 0) → y ≡ lifted_byte l.first (sign_weight l.sign count) x
    → bits_of front ≡ components_from l (skip * count) p (bits_of bytes) → all ≡ front ++ y ∷ [] → bits_of all ≡ components_from l (skip * count) (p + 1) (bits_of bytes)
head_step l count skip p x y front all bytes is some size filled =
    subst (λ (k : ℕ). (skip + p) * k + k ≤ 8 → x ≡ cut_byte ((skip + p) * k) k (get_or bytes 0 0) → y ≡ lifted_byte l.first (sign_weight l.sign k) x → bits_of front ≡ components_from l (skip * k) p (bits_of bytes) → all ≡ front ++ y ∷ [] → bits_of all ≡ components_from l (skip * k) (p + 1) (bits_of bytes)) is
    (head_more l skip p x y front all bytes some size filled)

-- and of some of them in a row
cut_parts : (c first s n : ℕ) (bytes : List ℕ) → s + n ≤ length bytes → first + c ≤ 8 → flat_map (low_bits c) (map (cut_byte first c) (take n (drop s bytes))) ≡ flat_map (λ j. field first c (component_bits 1 bytes (s + j))) (range_with_len 0 n)
cut_parts c first s zero bytes h k = refl
cut_parts c first s (suc n) bytes h k =
    let rest = drop s bytes in
    let f : ℕ → List ℕ = λ x. low_bits c (cut_byte first c x) in
    let g : ℕ → List ℕ = λ j. field first c (component_bits 1 bytes (s + j)) in
    let long = length-drop s bytes in
    ap (λ m. flat_map (low_bits c) (map (cut_byte first c) (take m rest))) (let e : suc n ≡ n + 1 = omega arith in e)
    ∙ flat_of_map (low_bits c) (cut_byte first c) (take (n + 1) rest)
    ∙ flat_take_more f rest n (omega arith)
    ∙ ap (λ (xs : List ℕ). xs ++ f (get_or rest n 0)) (sym (flat_of_map (low_bits c) (cut_byte first c) (take n rest)) ∙ cut_parts c first s n bytes (omega arith) k)
    ∙ ap (λ (xs : List ℕ). flat_map g (range_with_len 0 n) ++ xs) (ap f (get_or-drop s bytes n 0) ∙ sym (one_part bytes (s + n) first c (omega arith) k))
    ∙ sym (flat_more g n)
    ∙ ap (λ m. flat_map g (range_with_len 0 m)) (let e : n + 1 ≡ suc n = omega arith in e)

-- two numbers of four bits in a byte
pub halves_joined : (to from : List ℕ) (p byte : ℕ) → length to ≡ 32 → length from ≡ 64 → p < 32 → bits_of (take p to) ≡ flat_map (low_bits 4) (take (2 * p) from) → get_or from (2 * p) 0 < 2 ^ 4 → get_or from (2 * p + 1) 0 < 2 ^ 4 → byte ≡ bit_or (get_or from (2 * p) 0) (get_or from (2 * p + 1) 0 * 2 ^ 4 % 2 ^ 8)
    → bits_of (take (p + 1) (set to p byte)) ≡ flat_map (low_bits 4) (take (2 * (p + 1)) from)
halves_joined to from p byte l k lt e sa sb is =
    let a = get_or from (2 * p) 0 in
    let b = get_or from (2 * p + 1) 0 in
    let front = flat_map (low_bits 4) (take (2 * p) from) in
    let value : byte ≡ b * 2 ^ 4 + a = is ∙ ap (bit_or a) (shl_whole b 4 4 8 sb (omega arith)) ∙ or_comm a (b * 2 ^ 4) ∙ or_shifted b 4 a sa in
    ap bits_of (take_more_set to p byte (omega arith))
    ∙ flat_map-append (low_bits 8) (take p to) (byte ∷ [])
    ∙ ap (λ (xs : List ℕ). xs ++ bits_of (byte ∷ [])) e
    ∙ ap (λ (xs : List ℕ). front ++ xs) (append-nil (low_bits 8 byte) ∙ ap (low_bits 8) value ∙ low_bits-cat 4 4 a b sa)
    ∙ sym (append_assoc front (low_bits 4 a) (low_bits 4 b))
    ∙ ap (λ (xs : List ℕ). xs ++ low_bits 4 b) (sym (flat_take_more (low_bits 4) from (2 * p) (omega arith)))
    ∙ sym (flat_take_more (low_bits 4) from (2 * p + 1) (omega arith))
    ∙ ap (λ n. flat_map (low_bits 4) (take n from)) (let q : 2 * p + 1 + 1 ≡ 2 * (p + 1) = omega arith in q)

-- a block more
pub joined_step : (c first b : ℕ) (old out new from kept bytes : List ℕ) → first + c ≤ 8 → 64 * b + 64 ≤ length bytes → from ≡ take 64 (drop (64 * b) bytes) → kept ≡ map (cut_byte first c) from
    → bits_of out ≡ bits_of old ++ flat_map (λ part. field first c (component_bits 1 bytes part)) (range_with_len 0 (64 * b)) → bits_of new ≡ bits_of out ++ flat_map (low_bits c) kept
    → bits_of new ≡ bits_of old ++ flat_map (λ part. field first c (component_bits 1 bytes part)) (range_with_len 0 (64 * (b + 1)))
joined_step c first b old out new from kept bytes h within is made before added =
    let f : ℕ → List ℕ = λ part. field first c (component_bits 1 bytes part) in
    let front = flat_map f (range_with_len 0 (64 * b)) in
    added
    ∙ ap (λ (xs : List ℕ). xs ++ flat_map (low_bits c) kept) before
    ∙ ap (λ (xs : List ℕ). (bits_of old ++ front) ++ xs) (ap (flat_map (low_bits c)) made ∙ ap (λ (xs : List ℕ). flat_map (low_bits c) (map (cut_byte first c) xs)) is ∙ cut_parts c first (64 * b) 64 bytes within h)
    ∙ append_assoc (bits_of old) front (flat_map (λ j. f (64 * b + j)) (range_with_len 0 64))
    ∙ ap (λ (xs : List ℕ). bits_of old ++ xs) (sym (flat_split f (64 * b) 64))
    ∙ ap (λ n. bits_of old ++ flat_map f (range_with_len 0 n)) (let e : 64 * b + 64 ≡ 64 * (b + 1) = omega arith in e)

-- four numbers of two bits in a byte
pub quarters_joined : (to from : List ℕ) (p byte : ℕ) → length to ≡ 16 → length from ≡ 64 → p < 16 → bits_of (take p to) ≡ flat_map (low_bits 2) (take (4 * p) from) → get_or from (4 * p) 0 < 2 ^ 2 → get_or from (4 * p + 1) 0 < 2 ^ 2 → get_or from (4 * p + 2) 0 < 2 ^ 2 → get_or from (4 * p + 3) 0 < 2 ^ 2
    → byte ≡ bit_or (bit_or (bit_or (get_or from (4 * p) 0) (get_or from (4 * p + 1) 0 * 2 ^ 2 % 2 ^ 8)) (get_or from (4 * p + 2) 0 * 2 ^ 4 % 2 ^ 8)) (get_or from (4 * p + 3) 0 * 2 ^ 6 % 2 ^ 8)
    → bits_of (take (p + 1) (set to p byte)) ≡ flat_map (low_bits 2) (take (4 * (p + 1)) from)
quarters_joined to from p byte l k lt e sa sb sc sd is =
    let a = get_or from (4 * p) 0 in
    let b = get_or from (4 * p + 1) 0 in
    let c = get_or from (4 * p + 2) 0 in
    let d = get_or from (4 * p + 3) 0 in
    let front = flat_map (low_bits 2) (take (4 * p) from) in
    let two = b * 2 ^ 2 + a in
    let three = c * 2 ^ 4 + two in
    let side : (x y s : ℕ) → x < 2 ^ s → y < 2 ^ 2 → s + 2 ≤ 8 → bit_or x (y * 2 ^ s % 2 ^ 8) ≡ y * 2 ^ s + x
    = λ x y s h g q. ap (bit_or x) (shl_whole y 2 s 8 g (omega arith)) ∙ or_comm x (y * 2 ^ s) ∙ or_shifted y s x h in
    let t2 : two < 2 ^ 4 = omega arith in
    let t3 : three < 2 ^ 6 = omega arith in
    let value : byte ≡ d * 2 ^ 6 + three
    = is ∙ ap (λ n. bit_or (bit_or n (c * 2 ^ 4 % 2 ^ 8)) (d * 2 ^ 6 % 2 ^ 8)) (side a b 2 sa sb (omega arith)) ∙ ap (λ n. bit_or n (d * 2 ^ 6 % 2 ^ 8)) (side two c 4 t2 sc (omega arith)) ∙ side three d 6 t3 sd (omega arith) in
    let bits : low_bits 8 byte ≡ ((low_bits 2 a ++ low_bits 2 b) ++ low_bits 2 c) ++ low_bits 2 d
    = ap (low_bits 8) value ∙ low_bits-cat 6 2 three d t3 ∙ ap (λ (xs : List ℕ). xs ++ low_bits 2 d) (low_bits-cat 4 2 two c t2 ∙ ap (λ (xs : List ℕ). xs ++ low_bits 2 c) (low_bits-cat 2 2 a b sa)) in
    let more : (i j : ℕ) → j ≡ i + 1 → i < 64 → flat_map (low_bits 2) (take j from) ≡ flat_map (low_bits 2) (take i from) ++ low_bits 2 (get_or from i 0)
    = λ i j q h. ap (λ n. flat_map (low_bits 2) (take n from)) q ∙ flat_take_more (low_bits 2) from i (omega arith) in
    ap bits_of (take_more_set to p byte (omega arith))
    ∙ flat_map-append (low_bits 8) (take p to) (byte ∷ [])
    ∙ ap (λ (xs : List ℕ). xs ++ bits_of (byte ∷ [])) e
    ∙ ap (λ (xs : List ℕ). front ++ xs) (append-nil (low_bits 8 byte) ∙ bits)
    ∙ sym (append_assoc front ((low_bits 2 a ++ low_bits 2 b) ++ low_bits 2 c) (low_bits 2 d))
    ∙ ap (λ (xs : List ℕ). xs ++ low_bits 2 d) (sym (append_assoc front (low_bits 2 a ++ low_bits 2 b) (low_bits 2 c))
    ∙ ap (λ (xs : List ℕ). xs ++ low_bits 2 c) (sym (append_assoc front (low_bits 2 a) (low_bits 2 b))
    ∙ ap (λ (xs : List ℕ). xs ++ low_bits 2 b) (sym (more (4 * p) (4 * p + 1) (omega arith) (omega arith)))
    ∙ sym (more (4 * p + 1) (4 * p + 2) (omega arith) (omega arith)))
    ∙ sym (more (4 * p + 2) (4 * p + 3) (omega arith) (omega arith)))
    ∙ sym (more (4 * p + 3) (4 * (p + 1)) (omega arith) (omega arith))
