-- The steps of a fill.
use Rattle.std.proofs.Common.{◌≡◌, ℕ, zero, suc, ◌+◌, ◌-◌, ◌*◌, ◌/◌, ◌%◌, ◌∙◌, sym, ◌<◌, ◌≤◌, get_or, slice_index, List, [], ◌∷◌, ◌++◌, length, map, replicate, nat_lt, true, refl, ap, ap₂, arith, add-one, lt-ltb}
use Rattle.std.specs.List.{list_all, range_with_len}
use Rattle.std.proofs.lemmas.Nat.{div-add-mod'}
use Rattle.std.proofs.lemmas.List.{append_assoc, length-append, get_or-replicate, length-replicate}
use Rattle.zarrs_array_bytes.specs.Offsets.{rises, is_offsets, last_of}
use Rattle.zarrs_array_bytes.specs.Pieces.{ends, IsLonger}
use Rattle.zarrs_array_bytes.specs.Filled.{copies}
use Rattle.zarrs_array_bytes.proofs.OffsetLemmas.{offsets_rise, offsets_begin, offsets_end}

-- the ends of copies
pub ends-replicate : (part : List ℕ) (start first count : ℕ) → start ≡ first * length part → ends start (map (λ p. p) (replicate count part)) ≡ map (λ place. place * length part + length part) (range_with_len first count)
ends-replicate part start first zero e = refl
ends-replicate part start first (suc count) e =
    let end : start + length part ≡ first * length part + length part = omega arith in
    let next : start + length part ≡ (first + 1) * length part = omega arith in
    ap₂ (λ n ns. n ∷ ns) end (ends-replicate part (start + length part) (first + 1) count next)

pub length-copies : (part : List ℕ) (count : ℕ) → length (copies part count) ≡ count * length part
length-copies part zero = omega arith
length-copies part (suc count) = omega (arith, length-append part (copies part count), length-copies part count)

pub mask_of_same : (n b : ℕ) → b < 2 → list_all (λ x. nat_lt x 2) (replicate n b) ≡ true
mask_of_same zero b l = refl
mask_of_same (suc n) b l = rw (lt-ltb b 2 l) (mask_of_same n b l)

zeros_rise : (n : ℕ) → rises (0 ∷ replicate n 0) ≡ true
zeros_rise zero = refl
zeros_rise (suc n) = zeros_rise n

pub zeros_are_offsets : (n : ℕ) → is_offsets (replicate (n + 1) 0) ≡ true
zeros_are_offsets n = rw add-one (zeros_rise n)

pub last_of_zeros : (n : ℕ) → last_of (replicate (n + 1) 0) ≡ 0
last_of_zeros n = get_or-replicate (n + 1) (length (replicate (n + 1) (let z : ℕ = 0 in z)) - 1) 0 0 (omega (arith, length-replicate (n + 1) (let z : ℕ = 0 in z)))

pub zeros_begin : (n : ℕ) → slice_index (replicate (n + 1) 0) 0 ≡ 0
zeros_begin n = get_or-replicate (n + 1) 0 0 0 (omega arith)

-- what the calls of a fill rest on
pub ruleset fill_calls = (mask_of_same, zeros_are_offsets, zeros_begin, last_of_zeros, offsets_rise, offsets_begin, offsets_end)

-- one byte so many times
single_copies : (byte count : ℕ) → replicate count byte ≡ copies (byte ∷ []) count
single_copies byte zero = refl
single_copies byte (suc count) = ap (λ xs. byte ∷ xs) (single_copies byte count)

pub replicate-copies : (bytes : List ℕ) (count : ℕ) → 1 ≤ length bytes → length bytes < 2 → replicate count (get_or bytes 0 0) ≡ copies bytes count
replicate-copies [] count l h = absurd (omega arith)
replicate-copies (byte ∷ []) count l h = single_copies byte count
replicate-copies (byte ∷ more ∷ bytes) count l h = absurd (omega arith)

pub copies-one : (byte count : ℕ) → copies (byte ∷ []) count ≡ replicate count byte
copies-one byte count = sym (single_copies byte count)

-- some copies, and some more
pub copies-add : (bytes : List ℕ) (some more : ℕ) → copies bytes (some + more) ≡ copies bytes some ++ copies bytes more
copies-add bytes zero more = ap (copies bytes) (let e : 0 + more ≡ more = omega arith in e)
copies-add bytes (suc some) more =
    ap (copies bytes) (let e : suc some + more ≡ suc (some + more) = omega arith in e)
    ∙ ap (λ (xs : List ℕ). bytes ++ xs) (copies-add bytes some more)
    ∙ sym (append_assoc bytes (copies bytes some) (copies bytes more))

-- copies of copies
pub copies-many : (bytes : List ℕ) (each count : ℕ) → copies (copies bytes each) count ≡ copies bytes (count * each)
copies-many bytes each zero = ap (copies bytes) (let e : 0 ≡ 0 * each = omega arith in e)
copies-many bytes each (suc count) =
    ap (λ (xs : List ℕ). copies bytes each ++ xs) (copies-many bytes each count)
    ∙ sym (copies-add bytes each (count * each))
    ∙ ap (copies bytes) (let e : each + count * each ≡ suc count * each = omega arith in e)

-- copies by blocks, and those that are left
pub copies-blocks : (bytes block : List ℕ) (each count : ℕ) → block ≡ copies bytes each → copies block (count / each) ++ copies bytes (count % each) ≡ copies bytes count
copies-blocks bytes block each count is =
    ap (λ (xs : List ℕ). copies xs (count / each) ++ copies bytes (count % each)) is
    ∙ ap (λ (xs : List ℕ). xs ++ copies bytes (count % each)) (copies-many bytes each (count / each))
    ∙ sym (copies-add bytes (count / each * each) (count % each))
    ∙ ap (copies bytes) (div-add-mod' count each)

-- what was longer, and longer again
pub longer-twice : (old between new : List ℕ) → IsLonger old between → IsLonger between new → IsLonger old new
longer-twice old between new first second = (first.0 ++ second.0, second.1 ∙ ap (λ (xs : List ℕ). xs ++ second.0) first.1 ∙ append_assoc old first.0 second.0)
