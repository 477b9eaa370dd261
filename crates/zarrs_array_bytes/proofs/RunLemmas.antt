-- Runs of elements, and the places that they cover.
use Rattle.std.proofs.Common.{◌≡◌, ℕ, zero, suc, ◌+◌, ◌-◌, ◌*◌, ◌<◌, ◌≤◌, List, [], ◌∷◌, ◌++◌, length, map, take, drop, get_or, slice_index, true, refl, sym, ap, ap₂, ◌∙◌, arith, drop-drop, length-append}
use Rattle.std.specs.List.{All, flat_map, range_with_len, between}
use Rattle.std.proofs.Math.Seq.{take-nil}
use Rattle.std.proofs.lemmas.List.{drop_more, get_or-take, get_or-drop, length-take}
use Rattle.std.proofs.lemmas.Grind.{get_or_default_zero}
use Rattle.std.proofs.lemmas.List.Concat.{flat_map-append}
use Rattle.std.proofs.lemmas.List.Elements.{All-append, All-cons, All-tail}
use Rattle.std.proofs.lemmas.List.FromFn.{length-range_with_len}
use Rattle.zarrs_chunk.specs.Runs.{joined_runs}
pub use Rattle.zarrs_chunk.proofs.CountedRuns.{joined_runs-take_more, length-take_runs}
use Rattle.zarrs_array_bytes.specs.Elements.{piece, cut}
use Rattle.zarrs_array_bytes.specs.Offsets.{is_offsets, last_of}
use Rattle.zarrs_array_bytes.specs.Pieces.{ends}
use Rattle.zarrs_array_bytes.proofs.OffsetLemmas.{rising_steps, rising_last}
use Rattle.zarrs_array_bytes.proofs.ElementLemmas.{length_between}

-- one run more
pub flat_map-take_runs : (f : ℕ → List ℕ) (runs : List (ℕ × ℕ)) (i : ℕ) → i < length runs
    → flat_map f (joined_runs (take (i + 1) runs)) ≡ flat_map f (joined_runs (take i runs)) ++ flat_map f (range_with_len (get_or runs i (0, 0)).0 (get_or runs i (0, 0)).1)
flat_map-take_runs f runs i l = ap (flat_map f) (joined_runs-take_more runs i l) ∙ flat_map-append f _ _

-- a part and the part behind it
pub take_two : (m n : ℕ) (xs : List ℕ) → take m xs ++ take n (drop m xs) ≡ take (m + n) xs
take_two zero n xs = let e : 0 + n ≡ n = omega arith in ap (λ k. take k xs) (sym e)
take_two (suc m) n [] = take-nil n ∙ sym (take-nil (suc m + n))
take_two (suc m) n (x ∷ xs) =
    let e : suc m + n ≡ suc (m + n) = omega arith in
    ap (λ ys. x ∷ ys) (take_two m n xs) ∙ ap (λ k. take k (x ∷ xs)) (sym e)

pub piece_is : (size i : ℕ) (bs : List ℕ) → piece size bs i ≡ take size (drop (i * size) bs)
piece_is size i bs = let e : i * size + size - i * size ≡ size = omega arith in ap (λ n. take n (drop (i * size) bs)) e

-- the elements of a run stand one behind another
pieces_in_run : (size : ℕ) (bs : List ℕ) (start len : ℕ) → flat_map (piece size bs) (range_with_len start len) ≡ take (len * size) (drop (start * size) bs)
pieces_in_run size bs start zero = let e : zero * size ≡ zero = omega arith in ap (λ n. take n (drop (start * size) bs)) (sym e)
pieces_in_run size bs start (suc len) =
    let at : (start + 1) * size ≡ start * size + size = omega arith in
    let all : size + len * size ≡ suc len * size = omega arith in
    ap (λ xs. piece size bs start ++ xs) (pieces_in_run size bs (start + 1) len)
    ∙ ap (λ n. piece size bs start ++ take (len * size) (drop n bs)) at
    ∙ ap (λ xs. piece size bs start ++ take (len * size) xs) (sym (drop-drop size (start * size) bs))
    ∙ ap (λ xs. xs ++ take (len * size) (drop size (drop (start * size) bs))) (piece_is size start bs)
    ∙ take_two size (len * size) (drop (start * size) bs)
    ∙ ap (λ n. take n (drop (start * size) bs)) all

pub pieces_of_run : (size : ℕ) (bs : List ℕ) (start len : ℕ) → flat_map (piece size bs) (range_with_len start len) ≡ between (start * size) (start * size + len * size) bs
pieces_of_run size bs start len =
    let e : len * size ≡ start * size + len * size - start * size = omega arith in
    pieces_in_run size bs start len ∙ ap (λ n. take n (drop (start * size) bs)) e

pub range_below : (n start len : ℕ) → start + len ≤ n → All (λ place. place < n) (range_with_len start len)
range_below n start zero l = λ k d h. absurd (omega arith)
range_below n start (suc len) l = All-cons (λ place. place < n) start (range_with_len (start + 1) len) (omega arith) (range_below n (start + 1) len (omega arith))

-- runs inside cover places inside
pub places_below : (n : ℕ) (runs : List (ℕ × ℕ)) → All (λ run. run.0 + run.1 ≤ n) runs → All (λ place. place < n) (joined_runs runs)
places_below n [] h = λ k d l. absurd (omega arith)
places_below n (run ∷ runs) h =
    All-append (λ place. place < n) (range_with_len run.0 run.1) (joined_runs runs) (range_below n run.0 run.1 (h 0 run (omega arith))) (places_below n runs (All-tail (λ (r : ℕ × ℕ). r.0 + r.1 ≤ n) run runs h))

-- the elements that are left to write
pub left_of_runs : (size : ℕ) (runs : List (ℕ × ℕ)) (i : ℕ) → i < length runs
    → length (joined_runs (drop i runs)) * size ≡ (get_or runs i (0, 0)).1 * size + length (joined_runs (drop (i + 1) runs)) * size
left_of_runs size runs i l =
    let run = get_or runs i (0, 0) in
    let rest = joined_runs (drop (i + 1) runs) in
    let count : length (joined_runs (drop i runs)) ≡ run.1 + length rest =
    ap (λ rs. length (joined_runs rs)) (drop_more runs i (0, 0) l) ∙ length-append (range_with_len run.0 run.1) rest ∙ ap (λ n. n + length rest) (length-range_with_len run.0 run.1) in
    let spread : (run.1 + length rest) * size ≡ run.1 * size + length rest * size = omega arith in
    ap (λ n. n * size) count ∙ spread

-- mask bytes
pub flags_at : (flags places : List ℕ) → All (λ place. place < length flags) places → flat_map (piece 1 flags) places ≡ map (slice_index flags) places
flags_at flags [] h = refl
flags_at flags (place ∷ places) h =
    let at : place * 1 ≡ place = omega arith in
    let first : piece 1 flags place ≡ slice_index flags place ∷ [] =
    piece_is 1 place flags ∙ ap (λ n. take 1 (drop n flags)) at ∙ ap (take 1) (drop_more flags place 0 (h 0 place (omega arith))) in
    ap (λ xs. xs ++ flat_map (piece 1 flags) places) first
    ∙ ap (λ xs. slice_index flags place ∷ xs) (flags_at flags places (All-tail (λ p. p < length flags) place places h))

-- ---- elements of any length

-- a later offset is no less
pub rising_between : (offsets : List ℕ) → is_offsets offsets ≡ true → (i n : ℕ) → i + n < length offsets → slice_index offsets i ≤ slice_index offsets (i + n)
rising_between offsets h i zero l = let e : i + 0 ≡ i = omega arith in rw e (omega arith)
rising_between offsets h i (suc n) l =
    let e : i + suc n ≡ i + n + 1 = omega arith in
    rw e (omega (arith, rising_steps offsets h (i + n) (omega arith), rising_between offsets h i n (omega arith)))

-- two parts that meet are one
between_join : (a b c : ℕ) (xs : List ℕ) → a ≤ b → b ≤ c → between a b xs ++ between b c xs ≡ between a c xs
between_join a b c xs h l =
    let at : a + (b - a) ≡ b = omega arith in
    let all : b - a + (c - b) ≡ c - a = omega arith in
    ap (λ n. take (b - a) (drop a xs) ++ take (c - b) (drop n xs)) (sym at)
    ∙ ap (λ ys. take (b - a) (drop a xs) ++ take (c - b) ys) (sym (drop-drop (b - a) a xs))
    ∙ take_two (b - a) (c - b) (drop a xs)
    ∙ ap (λ n. take n (drop a xs)) all

-- the elements of a run stand one behind another
pub cuts_of_run : (offsets bs : List ℕ) → is_offsets offsets ≡ true → (first count : ℕ) → first + count < length offsets
    → flat_map (cut offsets bs) (range_with_len first count) ≡ between (slice_index offsets first) (slice_index offsets (first + count)) bs
cuts_of_run offsets bs h first zero l =
    let e : first + 0 ≡ first = omega arith in
    let none : slice_index offsets (first + 0) - slice_index offsets first ≡ 0 = rw e (omega arith) in
    ap (λ n. take n (drop (slice_index offsets first) bs)) (sym none)
cuts_of_run offsets bs h first (suc count) l =
    let e : first + 1 + count ≡ first + suc count = omega arith in
    let rest : first + 1 + count < length offsets = omega arith in
    ap (λ xs. cut offsets bs first ++ xs) (cuts_of_run offsets bs h (first + 1) count rest)
    ∙ between_join (slice_index offsets first) (slice_index offsets (first + 1)) (slice_index offsets (first + 1 + count)) bs (rising_steps offsets h first (omega arith)) (rising_between offsets h (first + 1) count rest)
    ∙ ap (λ n. between (slice_index offsets first) (slice_index offsets n) bs) e

-- the offsets behind the first one of a run
run_offset : (offsets : List ℕ) (first count k d : ℕ) → first + count < length offsets → k < length (take (first + count + 1 - (first + 1)) (drop (first + 1) offsets))
    → (k < count) × (get_or (take (first + count + 1 - (first + 1)) (drop (first + 1) offsets)) k d ≡ slice_index offsets (first + 1 + k))
run_offset offsets first count k d inside l =
    let n : first + count + 1 - (first + 1) ≡ count = omega arith in
    let short : k < count = omega (arith, length-take (first + count + 1 - (first + 1)) (drop (first + 1) offsets)) in (
      short,
      get_or-take (first + count + 1 - (first + 1)) (drop (first + 1) offsets) k d (omega arith) ∙ get_or-drop (first + 1) offsets k d ∙ get_or_default_zero offsets (first + 1 + k) d (omega arith),
    )

pub run_offsets_behind : (offsets : List ℕ) → is_offsets offsets ≡ true → (first count : ℕ) → first + count < length offsets
    → All (λ offset. slice_index offsets first ≤ offset) (take (first + count + 1 - (first + 1)) (drop (first + 1) offsets))
run_offsets_behind offsets h first count inside = λ k d l.
    let at = run_offset offsets first count k d inside l in
    let e : first + (1 + k) ≡ first + 1 + k = omega arith in
    let up : slice_index offsets first ≤ slice_index offsets (first + 1 + k) = rw e at (rising_between offsets h first (1 + k) (omega (arith, at.0))) in
    rw at.1 up

pub run_offsets_fit : (offsets : List ℕ) → is_offsets offsets ≡ true → (start first count limit : ℕ) → first + count < length offsets → start + (slice_index offsets (first + count) - slice_index offsets first) < limit
    → All (λ offset. offset - slice_index offsets first + start < limit) (take (first + count + 1 - (first + 1)) (drop (first + 1) offsets))
run_offsets_fit offsets h start first count limit inside fits = λ k d l.
    let at = run_offset offsets first count k d inside l in
    let e : first + 1 + k + (count - (1 + k)) ≡ first + count = omega (arith, at.0) in
    let up : slice_index offsets (first + 1 + k) ≤ slice_index offsets (first + count) = rw e at (rising_between offsets h (first + 1 + k) (count - (1 + k)) (omega (arith, at.0))) in
    rw at.1 (omega arith)

-- where they end is where they ended, moved
ends_of_cuts : (offsets bs : List ℕ) → is_offsets offsets ≡ true → last_of offsets ≡ length bs → (from start first count : ℕ) → first + count < length offsets → from ≤ slice_index offsets first
    → ends (start + (slice_index offsets first - from)) (map (cut offsets bs) (range_with_len first count)) ≡ map (λ end. end - from + start) (take count (drop (first + 1) offsets))
ends_of_cuts offsets bs h last from start first zero l below = refl
ends_of_cuts offsets bs h last from start first (suc count) l below =
    let here : ℕ = slice_index offsets first in
    let next : ℕ = slice_index offsets (first + 1) in
    let up : here ≤ next = rising_steps offsets h first (omega arith) in
    let inside : next ≤ length bs = omega (arith, rising_last offsets h (first + 1) (omega arith)) in
    let len : length (cut offsets bs first) ≡ next - here = length_between here next bs up inside in
    let end : start + (here - from) + length (cut offsets bs first) ≡ start + (next - from) = omega arith in
    let moved : start + (next - from) ≡ next - from + start = omega arith in
    ap (λ n. n ∷ ends n (map (cut offsets bs) (range_with_len (first + 1) count))) end
    ∙ ap₂ (λ n ns. n ∷ ns) moved (ends_of_cuts offsets bs h last from start (first + 1) count (omega arith) (omega arith))
    ∙ ap (λ xs. map (λ end. end - from + start) (take (suc count) xs)) (sym (drop_more offsets (first + 1) 0 (omega arith)))

pub ends_of_run : (offsets bs : List ℕ) → is_offsets offsets ≡ true → last_of offsets ≡ length bs → (start first count : ℕ) → first + count < length offsets
    → ends start (map (cut offsets bs) (range_with_len first count)) ≡ map (λ end. end - slice_index offsets first + start) (take (first + count + 1 - (first + 1)) (drop (first + 1) offsets))
ends_of_run offsets bs h last start first count l =
    let at : start + (slice_index offsets first - slice_index offsets first) ≡ start = omega arith in
    ap (λ n. ends n (map (cut offsets bs) (range_with_len first count))) (sym at)
    ∙ ends_of_cuts offsets bs h last (slice_index offsets first) start first count l (omega arith)
    ∙ ap (λ n. map (λ end. end - slice_index offsets first + start) (take n (drop (first + 1) offsets))) (let n : count ≡ first + count + 1 - (first + 1) = omega arith in n)

-- what a run of elements of any length rests on
pub ruleset run_facts = (rising_between, rising_last, cuts_of_run)
