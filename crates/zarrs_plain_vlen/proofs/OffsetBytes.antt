-- Offsets in the bytes that spell them.
use Rattle.std.proofs.Common.{◌≡◌, ℕ, ◌+◌, ◌-◌, ◌/◌, ◌^◌, ◌<◌, ◌≤◌, Bool, List, [], ◌∷◌, ◌++◌, length, map, take, drop, get_or, slice_index, arith, ap, sym, subst, ◌∙◌}
use Rattle.std.specs.List.{All, between}
use Rattle.std.proofs.Math.Nat.{div-le_self}
use Rattle.std.proofs.lemmas.List.{length-map, length-take, length-drop, get_or-take, get_or-drop, take_more, map-append, append_assoc}
use Rattle.std.proofs.lemmas.List.FromFn.{get_or-map-range_with_len}
use Rattle.zarrs_array_bytes.specs.Elements.{piece}
use Rattle.zarrs_array_bytes.specs.Pieces.{pieces}
use Rattle.zarrs_array_bytes.proofs.Pieces.{length-pieces, read_pieces}
use Rattle.zarrs_chain_meaning.specs.vlen.Vlen.{offset_of}
use Rattle.zarrs_chain_meaning.specs.vlen.VlenSteps.{offset_size, read_offsets}

-- how many offsets bytes spell
pub read_long : (wide : Bool) (items : List ℕ) → length (read_offsets wide items) ≡ length items / offset_size wide
read_long wide items =
    length-map (pieces (offset_size wide) (length items / offset_size wide) items) (offset_of wide)
    ∙ length-pieces (offset_size wide) (length items / offset_size wide) items

-- so many as a slice has at most
pub few_numbers : (wide : Bool) (size : ℕ) (items : List ℕ) → offset_size wide ≡ size → length items < 2 ^ 64 → length (read_offsets wide items) < 2 ^ 64
few_numbers wide size items e few =
    let long = read_long wide items ∙ ap (λ (n : ℕ). length items / n) e in
    let less = div-le_self (length items) size in
    omega (arith, long, less, few)

-- and by the size of each
pub sized_long : (wide : Bool) (size : ℕ) (items : List ℕ) → offset_size wide ≡ size → length items / size ≡ length (read_offsets wide items)
sized_long wide size items e = sym (read_long wide items ∙ ap (λ (n : ℕ). length items / n) e)

-- one with a number is known by the bytes' count
pub number_known : (wide : Bool) (size number : ℕ) (items : List ℕ) → offset_size wide ≡ size → number < length (read_offsets wide items) → number < length items / size
number_known wide size number items e l = let long = sized_long wide size items e in omega (arith, l, long)

-- and the one with a number
pub read_at : (wide : Bool) (items : List ℕ) (number : ℕ) → number < length (read_offsets wide items) → offset_of wide (piece (offset_size wide) items number) ≡ slice_index (read_offsets wide items) number
read_at wide items number l =
    let size = offset_size wide in
    let count = length items / size in
    let long = read_long wide items in
    let known : number < count = omega (arith, l, long) in
    sym (ap (λ (numbers : List ℕ). get_or numbers number 0) (sym (read_pieces (offset_of wide) size count items))
    ∙ get_or-map-range_with_len (λ place. offset_of wide (piece size items place)) 0 count number number 0 known (omega arith))

-- ---- offsets that are moved

one_more : (f : ℕ → ℕ) (offsets : List ℕ) (first number : ℕ) → first ≤ number → number < length offsets
    → map f (between first number offsets) ++ f (slice_index offsets number) ∷ [] ≡ map f (between first (number + 1) offsets)
one_more f offsets first number le l =
    let rest = drop first offsets in
    let i = number - first in
    let known : i < length rest = omega (arith, length-drop first offsets) in
    let at : first + i ≡ number = omega arith in
    let next : i + 1 ≡ number + 1 - first = omega arith in
    let same : get_or rest i 0 ≡ slice_index offsets number = get_or-drop first offsets i 0 ∙ ap (slice_index offsets) at in
    ap (λ (n : ℕ). map f (take i rest) ++ f n ∷ []) (sym same)
    ∙ sym (map-append f (take i rest) (get_or rest i 0 ∷ []))
    ∙ ap (map f) (sym (take_more rest i 0 known))
    ∙ ap (λ (n : ℕ). map f (take n rest)) next

-- what holds of each of a part holds of the one with a number
pub all_at : (P : ℕ → Type 0) (offsets : List ℕ) (first end number offset : ℕ) → first ≤ number → number < end → end ≤ length offsets → offset ≡ slice_index offsets number → All P (between first end offsets) → P offset
all_at P offsets first end number offset le lt inside is all =
    let rest = drop first offsets in
    let i = number - first in
    let short : i < end - first = omega arith in
    let known : i < length (between first end offsets) = omega (arith, length-take (end - first) rest, length-drop first offsets) in
    let at : first + i ≡ number = omega arith in
    let same : get_or (between first end offsets) i 0 ≡ slice_index offsets number = get_or-take (end - first) rest i 0 short ∙ get_or-drop first offsets i 0 ∙ ap (slice_index offsets) at in
    subst P (same ∙ sym is) (all i 0 known)

-- one more is appended
pub moved_more : (f : ℕ → ℕ) (offsets old now new : List ℕ) (first number offset : ℕ) → first ≤ number → number < length offsets → offset ≡ slice_index offsets number
    → now ≡ old ++ map f (between first number offsets) → new ≡ now ++ f offset ∷ [] → new ≡ old ++ map f (between first (number + 1) offsets)
moved_more f offsets old now new first number offset le l is was put =
    put ∙ ap (λ (n : ℕ). now ++ f n ∷ []) is
    ∙ ap (λ (xs : List ℕ). xs ++ f (slice_index offsets number) ∷ []) was
    ∙ append_assoc old (map f (between first number offsets)) (f (slice_index offsets number) ∷ [])
    ∙ ap (λ (xs : List ℕ). old ++ xs) (one_more f offsets first number le l)
