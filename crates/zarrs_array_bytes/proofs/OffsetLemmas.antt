-- What follows from offsets that rise.
use Rattle.std.proofs.Common.{◌≡◌, ℕ, zero, suc, ◌+◌, ◌<◌, ◌≤◌, true, List, [], ◌∷◌, length, map, slice_index, get_or, ◌++◌, refl, ap, ◌∙◌, arith, leb-true, le-leb, add-one, sub-one, zero-add, length-append}
use Rattle.std.specs.List.{concat, flat_map}
use Rattle.zarrs_array_bytes.specs.Offsets.{rises, is_offsets, last_of}
use Rattle.zarrs_array_bytes.specs.Pieces.{ends, bytes_with_offsets}
use Rattle.zarrs_array_bytes.specs.SameBytesLaws.{both_true}

steps : (o : ℕ) (os : List ℕ) → rises (o ∷ os) ≡ true → (k : ℕ) → k < length os → get_or (o ∷ os) k 0 ≤ get_or os k 0
steps o [] h k l = omega arith
steps o (p ∷ os) h zero l = leb-true o p (both_true _ _ h).0
steps o (p ∷ os) h (suc k) l = steps p os (both_true _ _ h).1 k (omega arith)

-- none is less than the one before
pub rising_steps : (os : List ℕ) → is_offsets os ≡ true → (k : ℕ) → k + 1 < length os → slice_index os k ≤ slice_index os (k + 1)
rising_steps [] h k l = omega arith
rising_steps (o ∷ os) h k l = rw add-one (steps o os h k (omega arith))

ends_above : (o : ℕ) (os : List ℕ) → rises (o ∷ os) ≡ true → (k : ℕ) → k < length os + 1 → get_or (o ∷ os) k 0 ≤ get_or (o ∷ os) (length os) 0
ends_above o [] h zero l = omega arith
ends_above o [] h (suc k) l = omega arith
ends_above o (p ∷ os) h zero l = omega (arith, leb-true o p (both_true _ _ h).0, ends_above p os (both_true _ _ h).1 0 (omega arith))
ends_above o (p ∷ os) h (suc k) l = ends_above p os (both_true _ _ h).1 k (omega arith)

-- none is above the last
pub rising_last : (os : List ℕ) → is_offsets os ≡ true → (k : ℕ) → k < length os → slice_index os k ≤ last_of os
rising_last [] h k l = omega arith
rising_last (o ∷ os) h k l = rw sub-one (ends_above o os h k (omega arith))

-- the ends rise
pub ends_rise : (at : ℕ) (xs : List (List ℕ)) → is_offsets (at ∷ ends at xs) ≡ true
ends_rise at [] = refl
ends_rise at (x ∷ xs) = rw (le-leb at (at + length x) (omega arith)) (ends_rise (at + length x) xs)

-- the offset behind the last element
pub at_end : {X : Type 0} (f : X → List ℕ) (at : ℕ) (ps : List X) → get_or (at ∷ ends at (map f ps)) (length (ends at (map f ps))) 0 ≡ at + length (flat_map f ps)
at_end f at [] = omega arith
at_end f at (p ∷ ps) = omega (arith, at_end f (at + length (f p)) ps, length-append (f p) (flat_map f ps))

-- the last end is behind all
last_of-ends : {X : Type 0} (f : X → List ℕ) (at : ℕ) (ps : List X) → last_of (at ∷ ends at (map f ps)) ≡ at + length (flat_map f ps)
last_of-ends f at ps = rw sub-one (at_end f at ps)

-- what is gathered has offsets that rise to its end
pub offsets_rise : {X : Type 0} (f : X → List ℕ) (xs : List X) → is_offsets (bytes_with_offsets f xs).1 ≡ true
offsets_rise f xs = ends_rise 0 (map f xs)

pub offsets_begin : {X : Type 0} (f : X → List ℕ) (xs : List X) → slice_index (bytes_with_offsets f xs).1 0 ≡ 0
offsets_begin f xs = refl

pub offsets_end : {X : Type 0} (f : X → List ℕ) (xs : List X) → last_of (bytes_with_offsets f xs).1 ≡ length (bytes_with_offsets f xs).0
offsets_end f xs = last_of-ends f 0 xs ∙ zero-add _

-- the bytes that a function gives are its lists, joined
pub flat_map-concat : {X : Type 0} (f : X → List ℕ) (xs : List X) → flat_map f xs ≡ concat (map f xs)
flat_map-concat f [] = refl
flat_map-concat f (x ∷ xs) = ap (λ ys. f x ++ ys) (flat_map-concat f xs)

-- the ends of some lists, and those of the lists behind them
pub ends-append : (start : ℕ) (xs ys : List (List ℕ)) → ends start (xs ++ ys) ≡ ends start xs ++ ends (start + length (concat xs)) ys
ends-append start [] ys = let e : start ≡ start + 0 = omega arith in ap (λ n. ends n ys) e
ends-append start (x ∷ xs) ys =
    let e : start + length x + length (concat xs) ≡ start + length (x ++ concat xs) = omega (arith, length-append x (concat xs)) in
    ap (λ ns. (start + length x) ∷ ns) (ends-append (start + length x) xs ys ∙ ap (λ n. ends (start + length x) xs ++ ends n ys) e)

pub ruleset offsets_facts = (rising_steps, rising_last)
