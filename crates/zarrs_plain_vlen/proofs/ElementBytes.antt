-- The bytes of elements whose offsets are known, by their numbers.
use Rattle.std.proofs.Common.{◌≡◌, ℕ, zero, suc, ◌+◌, ◌-◌, ◌<◌, ◌≤◌, ◌^◌, ◌==◌, ◌&&◌, ◌||◌, Bool, true, false, nat_lt, nat_le, List, [], ◌∷◌, ◌++◌, length, take, drop, map, get_or, slice_index, Ok, replicate, arith, refl, ap, ap₂, sym, ◌∙◌, add-one, zero-add, length-append, eq-eqb}
use Rattle.std.specs.List.{between, concat, flat_map, list_all, range_with_len}
use Rattle.std.proofs.lemmas.Bool.{and_parts}
use Rattle.std.proofs.lemmas.Bool.Decides.{nat_tests}
use Rattle.std.proofs.lemmas.List.{drop-drop, length-take, length-drop, length-replicate, map-append, get_or-map, append-nil, take-append-drop, length-map}
use Rattle.std.proofs.lemmas.List.Concat.{flat_map-append}
use Rattle.std.proofs.lemmas.List.Folds.{list_all-append}
use Rattle.std.proofs.lemmas.List.FromFn.{fill_by_all}
use Rattle.zarrs_chunk.proofs.Consecutive.{range-append}
use Rattle.zarrs_chunk.proofs.CountedRuns.{joined_runs-take_more}
use Rattle.zarrs_chunk.specs.Runs.{joined_runs}
use Rattle.zarrs_chunk.specs.declared.codec_error.CodecError.TheVariants.{InvalidBytesLength}
use Rattle.zarrs_data_type.specs.Element.{plain, absent, Chunk}
use Rattle.zarrs_data_type.specs.ElementType.{ElementType, fixed, text, bytes, optional, is_variable}
use Rattle.zarrs_array_bytes.specs.Elements.{cut, element_at}
use Rattle.zarrs_array_bytes.specs.Held.{Raw, vlen, owned_bytes}
use Rattle.zarrs_array_bytes.specs.Offsets.{is_offsets, last_of}
use Rattle.zarrs_array_bytes.specs.Pieces.{ends}
use Rattle.zarrs_array_bytes.specs.Tight.{are_flush}
use Rattle.zarrs_array_bytes.specs.Validity.{Holds, validity}
use Rattle.zarrs_array_bytes.proofs.ElementLemmas.{cut_at, length_ends}
use Rattle.zarrs_array_bytes.proofs.OffsetLemmas.{rising_steps, rising_last, ends_rise, offsets_end, ends-append, flat_map-concat}
use Rattle.zarrs_array_bytes.proofs.RunLemmas.{rising_between, ends_of_run, flat_map-take_runs}
use Rattle.zarrs_array_bytes.proofs.ValidLemmas.{length_due}
use Rattle.zarrs_array_bytes.proofs.Pieces.{take-drop-take}
use Rattle.zarrs_plain_vlen.specs.Elements.{element_zeros}
use Rattle.zarrs_plain_vlen.specs.VlenRead.{element_is_there, element_numbers}
use Rattle.zarrs_bytes.proofs.Ranges.{take_drop-numbers, all_below-range}
use Rattle.zarrs_plain_vlen.proofs.RangesRead.{byte_of}

-- ---- elements of a run that are there

there_joined : (a b c size : ℕ) → a ≤ b → b ≤ c → ((nat_le b a || nat_le b size) && (nat_le c b || nat_le c size)) ≡ (nat_le c a || nat_le c size)
there_joined a b c size h l = grind (arith, nat_tests)

-- the elements of a run are there where its end is
pub run_there : (offsets : List ℕ) → is_offsets offsets ≡ true → (size first count : ℕ) → first + count < length offsets
    → list_all (element_is_there offsets size) (range_with_len first count) ≡ (nat_le (slice_index offsets (first + count)) (slice_index offsets first) || nat_le (slice_index offsets (first + count)) size)
run_there offsets h size first zero l =
    let e : first + 0 ≡ first = omega arith in
    rw e (grind (arith, nat_tests))
run_there offsets h size first (suc count) l =
    let at : first + 1 + count ≡ first + suc count = omega arith in
    let rest = run_there offsets h size (first + 1) count (omega arith) in
    let up : slice_index offsets (first + 1) ≤ slice_index offsets (first + 1 + count) = rising_between offsets h (first + 1) count (omega arith) in
    ap (λ (b : Bool). element_is_there offsets size first && b) rest
    ∙ there_joined (slice_index offsets first) (slice_index offsets (first + 1)) (slice_index offsets (first + 1 + count)) size (rising_steps offsets h first (omega arith)) up
    ∙ ap (λ (k : ℕ). nat_le (slice_index offsets k) (slice_index offsets first) || nat_le (slice_index offsets k) size) at

-- a run of elements that are there
pub at_run : (test : ℕ → Bool) (runs : List (ℕ × ℕ)) (i : ℕ) (d : ℕ × ℕ) → i < length runs → list_all test (joined_runs runs) ≡ true → list_all test (range_with_len (get_or runs i d).0 (get_or runs i d).1) ≡ true
at_run test [] i d l h = absurd (omega arith)
at_run test (run ∷ runs) zero d l h = (and_parts (list_all test (range_with_len run.0 run.1)) (list_all test (joined_runs runs)) (sym (list_all-append test (range_with_len run.0 run.1) (joined_runs runs)) ∙ h)).0
at_run test (run ∷ runs) (suc i) d l h =
    at_run test runs i d (omega arith) (and_parts (list_all test (range_with_len run.0 run.1)) (list_all test (joined_runs runs)) (sym (list_all-append test (range_with_len run.0 run.1) (joined_runs runs)) ∙ h)).1

-- ends where 64 bits count it
pub run_end_fits : (offsets : List ℕ) → is_offsets offsets ≡ true → (start size first count limit : ℕ) → first + count < length offsets → list_all (element_is_there offsets size) (range_with_len first count) ≡ true → start + size < limit
    → slice_index offsets first < slice_index offsets (first + count) → start + slice_index offsets (first + count) < limit
run_end_fits offsets h start size first count limit l there fits some =
    let test : (nat_le (slice_index offsets (first + count)) (slice_index offsets first) || nat_le (slice_index offsets (first + count)) size) ≡ true = sym (run_there offsets h size first count l) ∙ there in
    grind (arith, nat_tests)

-- the two tests of a run, by where it begins and ends
pub none_there : (offsets : List ℕ) → is_offsets offsets ≡ true → (size first count from to : ℕ) → first + count < length offsets → from ≡ slice_index offsets first → to ≡ slice_index offsets (first + count) → to ≤ from
    → nat_le to from ≡ list_all (element_is_there offsets size) (range_with_len first count)
none_there offsets h size first count from to l begins ends le =
    let e : nat_le to from ≡ (nat_le to from || nat_le to size) = grind (arith, nat_tests) in
    e ∙ ap₂ (λ (a b : ℕ). nat_le b a || nat_le b size) begins ends ∙ sym (run_there offsets h size first count l)

pub some_there : (offsets : List ℕ) → is_offsets offsets ≡ true → (size first count from to : ℕ) → first + count < length offsets → from ≡ slice_index offsets first → to ≡ slice_index offsets (first + count) → from < to
    → nat_le to size ≡ list_all (element_is_there offsets size) (range_with_len first count)
some_there offsets h size first count from to l begins ends lt =
    let e : nat_le to size ≡ (nat_le to from || nat_le to size) = grind (arith, nat_tests) in
    e ∙ ap₂ (λ (a b : ℕ). nat_le b a || nat_le b size) begins ends ∙ sym (run_there offsets h size first count l)

-- those of runs, run by run
pub runs_there : (test : ℕ → Bool) (runs : List (ℕ × ℕ)) → list_all (λ run. list_all test (range_with_len run.0 run.1)) runs ≡ list_all test (joined_runs runs)
runs_there test [] = refl
runs_there test (run ∷ runs) =
    ap (λ (b : Bool). list_all test (range_with_len run.0 run.1) && b) (runs_there test runs)
    ∙ sym (list_all-append test (range_with_len run.0 run.1) (joined_runs runs))

-- ---- the numbers of their bytes

abbrev pub numbers_at : ℕ → List ℕ → ℕ → List ℕ
numbers_at start offsets place = range_with_len (start + slice_index offsets place) (slice_index offsets (place + 1) - slice_index offsets place)

-- the bytes of a run are consecutive
pub numbers_of_run : (start : ℕ) (offsets : List ℕ) → is_offsets offsets ≡ true → (first count : ℕ) → first + count < length offsets
    → element_numbers start offsets (range_with_len first count) ≡ range_with_len (start + slice_index offsets first) (slice_index offsets (first + count) - slice_index offsets first)
numbers_of_run start offsets h first zero l =
    let e : first + 0 ≡ first = omega arith in
    let none : slice_index offsets (first + 0) - slice_index offsets first ≡ 0 = rw e (omega arith) in
    ap (range_with_len (start + slice_index offsets first)) (sym none)
numbers_of_run start offsets h first (suc count) l =
    let at : first + 1 + count ≡ first + suc count = omega arith in
    let a = slice_index offsets first in
    let b = slice_index offsets (first + 1) in
    let c = slice_index offsets (first + 1 + count) in
    let up : a ≤ b = rising_steps offsets h first (omega arith) in
    let over : b ≤ c = rising_between offsets h (first + 1) count (omega arith) in
    let next : start + a + (b - a) ≡ start + b = omega arith in
    let all : b - a + (c - b) ≡ c - a = omega arith in
    ap (λ (l : List ℕ). numbers_at start offsets first ++ l) (numbers_of_run start offsets h (first + 1) count (omega arith))
    ∙ ap (λ (k : ℕ). range_with_len (start + a) (b - a) ++ range_with_len k (c - b)) (sym next)
    ∙ sym (range-append (start + a) (b - a) (c - b))
    ∙ ap (range_with_len (start + a)) all
    ∙ ap (λ (k : ℕ). range_with_len (start + a) (slice_index offsets k - a)) at

range_below : (n s m : ℕ) → (0 < m → s + m ≤ n) → list_all (λ k. nat_lt k n) (range_with_len s m) ≡ true
range_below n s zero f = refl
range_below n s (suc m) f =
    let fits : s + suc m ≤ n = f (omega arith) in
    all_below-range n s (suc m) (omega arith) ∙ grind (arith, nat_tests)

numbers_below : (start size n a b : ℕ) → (nat_le b a || nat_le b size) ≡ true → start + size ≤ n → list_all (λ k. nat_lt k n) (range_with_len (start + a) (b - a)) ≡ true
numbers_below start size n a b there h = range_below n (start + a) (b - a) (λ l. grind (arith, nat_tests))

-- the bytes of elements that are there lie inside
pub numbers_inside : (start size n : ℕ) (offsets places : List ℕ) → start + size ≤ n → list_all (element_is_there offsets size) places ≡ true → list_all (λ k. nat_lt k n) (element_numbers start offsets places) ≡ true
numbers_inside start size n offsets [] h e = refl
numbers_inside start size n offsets (place ∷ places) h e =
    let both = and_parts (element_is_there offsets size place) (list_all (element_is_there offsets size) places) e in
    list_all-append (λ k. nat_lt k n) (numbers_at start offsets place) (element_numbers start offsets places)
    ∙ ap₂ (λ (a b : Bool). a && b) (numbers_below start size n (slice_index offsets place) (slice_index offsets (place + 1)) both.0 h) (numbers_inside start size n offsets places h both.1)

-- ---- their bytes

-- a part of a part
nested : (start end a b : ℕ) (value : List ℕ) → a ≤ b → start + b ≤ end → between a b (between start end value) ≡ take (b - a) (drop (start + a) value)
nested start end a b value le h =
    let fits : a + (b - a) ≤ end - start = omega arith in
    take-drop-take (b - a) a (end - start) (drop start value) fits
    ∙ ap (take (b - a)) (drop-drop a start value)

numbered_if : (empty : Bool) (value : List ℕ) (start end a b : ℕ) → nat_le b a ≡ empty → start ≤ end → end ≤ length value → (nat_le b a || nat_le b (end - start)) ≡ true
    → between a b (between start end value) ≡ map (byte_of value) (range_with_len (start + a) (b - a))
numbered_if true value start end a b t ordered inside there =
    let none : b - a ≡ 0 = grind (arith, nat_tests) in
    rw none refl
numbered_if false value start end a b t ordered inside there =
    let over : a ≤ b = grind (arith, nat_tests) in
    let within : b ≤ end - start = grind (arith, nat_tests) in
    nested start end a b value over (omega arith) ∙ take_drop-numbers value (start + a) (b - a) (omega arith)

-- an element that is there has the bytes with its numbers
pub cut_numbered : (value : List ℕ) (start end : ℕ) (offsets : List ℕ) (place : ℕ) → start ≤ end → end ≤ length value → element_is_there offsets (end - start) place ≡ true
    → cut offsets (between start end value) place ≡ map (byte_of value) (numbers_at start offsets place)
cut_numbered value start end offsets place ordered inside there =
    numbered_if (nat_le (slice_index offsets (place + 1)) (slice_index offsets place)) value start end (slice_index offsets place) (slice_index offsets (place + 1)) refl ordered inside there

-- and so the elements at places
pub cuts_numbered : (value : List ℕ) (start end : ℕ) (offsets places : List ℕ) → start ≤ end → end ≤ length value → list_all (element_is_there offsets (end - start)) places ≡ true
    → flat_map (cut offsets (between start end value)) places ≡ map (byte_of value) (element_numbers start offsets places)
cuts_numbered value start end offsets [] ordered inside there = refl
cuts_numbered value start end offsets (place ∷ places) ordered inside there =
    let both = and_parts (element_is_there offsets (end - start) place) (list_all (element_is_there offsets (end - start)) places) there in
    ap₂ (λ (x y : List ℕ). x ++ y) (cut_numbered value start end offsets place ordered inside both.0) (cuts_numbered value start end offsets places ordered inside both.1)
    ∙ sym (map-append (byte_of value) (numbers_at start offsets place) (element_numbers start offsets places))

-- ---- their lengths

short_there : (a b size : ℕ) → (nat_le b a || nat_le b size) ≡ true → (xs : List ℕ) → length xs ≡ size → length (between a b xs) ≡ b - a
short_there a b size there xs long =
    let taken : length (between a b xs) ≡ _ = length-take (b - a) (drop a xs) in
    grind (arith, nat_tests, taken, length-drop a xs)

pub cut_long : (offsets content : List ℕ) (place : ℕ) → element_is_there offsets (length content) place ≡ true → length (cut offsets content place) ≡ length (element_zeros offsets place)
cut_long offsets content place there =
    short_there (slice_index offsets place) (slice_index offsets (place + 1)) (length content) there content refl
    ∙ sym (length-replicate (slice_index offsets (place + 1) - slice_index offsets place) 0)

-- elements that are there are as long as blank ones
pub cuts_long : (offsets content places : List ℕ) → list_all (element_is_there offsets (length content)) places ≡ true → length (flat_map (cut offsets content) places) ≡ length (flat_map (element_zeros offsets) places)
cuts_long offsets content [] there = refl
cuts_long offsets content (place ∷ places) there =
    let both = and_parts (element_is_there offsets (length content) place) (list_all (element_is_there offsets (length content)) places) there in
    length-append (cut offsets content place) (flat_map (cut offsets content) places)
    ∙ ap₂ (λ (m n : ℕ). m + n) (cut_long offsets content place both.0) (cuts_long offsets content places both.1)
    ∙ sym (length-append (element_zeros offsets place) (flat_map (element_zeros offsets) places))

-- and end where these do
pub ends_long : (offsets content : List ℕ) (start : ℕ) (places : List ℕ) → list_all (element_is_there offsets (length content)) places ≡ true → ends start (map (element_zeros offsets) places) ≡ ends start (map (cut offsets content) places)
ends_long offsets content start [] there = refl
ends_long offsets content start (place ∷ places) there =
    let both = and_parts (element_is_there offsets (length content) place) (list_all (element_is_there offsets (length content)) places) there in
    let same : length (element_zeros offsets place) ≡ length (cut offsets content place) = sym (cut_long offsets content place both.0) in
    ap (λ (n : ℕ). (start + n) ∷ ends (start + n) (map (element_zeros offsets) places)) same
    ∙ ap (λ (ns : List ℕ). (start + length (cut offsets content place)) ∷ ns) (ends_long offsets content (start + length (cut offsets content place)) places both.1)

-- all elements of a run are there, in as many bytes as the last offset says
run_all_there : (offsets : List ℕ) → is_offsets offsets ≡ true → (first count : ℕ) → first + count < length offsets → list_all (element_is_there offsets (last_of offsets)) (range_with_len first count) ≡ true
run_all_there offsets h first count l =
    let below : slice_index offsets (first + count) ≤ last_of offsets = rising_last offsets h (first + count) l in
    run_there offsets h (last_of offsets) first count l ∙ grind (arith, nat_tests)

-- where the elements of a run end is where they ended, moved
pub blank_ends : (offsets : List ℕ) → is_offsets offsets ≡ true → (start first count : ℕ) → first + count < length offsets
    → ends start (map (element_zeros offsets) (range_with_len first count)) ≡ map (λ end. end - slice_index offsets first + start) (take (first + count + 1 - (first + 1)) (drop (first + 1) offsets))
blank_ends offsets h start first count l =
    let zeros = replicate (last_of offsets) 0 in
    let long : length zeros ≡ last_of offsets = length-replicate (last_of offsets) 0 in
    let there : list_all (element_is_there offsets (length zeros)) (range_with_len first count) ≡ true = rw long (run_all_there offsets h first count l) in
    ends_long offsets zeros start (range_with_len first count) there ∙ ends_of_run offsets zeros h (sym long) start first count l

-- how many bytes a run has
pub blank_run : (offsets : List ℕ) → is_offsets offsets ≡ true → (first count : ℕ) → first + count < length offsets
    → length (flat_map (element_zeros offsets) (range_with_len first count)) ≡ slice_index offsets (first + count) - slice_index offsets first
blank_run offsets h first zero l =
    let e : first + 0 ≡ first = omega arith in
    rw e (omega arith)
blank_run offsets h first (suc count) l =
    let at : first + 1 + count ≡ first + suc count = omega arith in
    let up : slice_index offsets first ≤ slice_index offsets (first + 1) = rising_steps offsets h first (omega arith) in
    let over : slice_index offsets (first + 1) ≤ slice_index offsets (first + 1 + count) = rising_between offsets h (first + 1) count (omega arith) in
    let rest = blank_run offsets h (first + 1) count (omega arith) in
    let one : length (element_zeros offsets first) ≡ slice_index offsets (first + 1) - slice_index offsets first = length-replicate (slice_index offsets (first + 1) - slice_index offsets first) 0 in
    rw (← at) (omega (arith, length-append (element_zeros offsets first) (flat_map (element_zeros offsets) (range_with_len (first + 1) count)), rest, one))

-- ---- a run's range

-- a range of the bytes of a run that has some
pub run_planned : (start : ℕ) (offsets : List ℕ) (first count from to : ℕ) (old new : List ℕ) → is_offsets offsets ≡ true → first + count < length offsets → from ≡ slice_index offsets first → to ≡ slice_index offsets (first + count)
    → new ≡ old ++ range_with_len (start + from) (start + to - (start + from))
    → new ≡ old ++ element_numbers start offsets (range_with_len first count)
run_planned start offsets first count from to old new h l begins ends e =
    let some : start + to - (start + from) ≡ to - from = omega arith in
    e ∙ ap (λ (n : ℕ). old ++ range_with_len (start + from) n) some
    ∙ ap₂ (λ (a b : ℕ). old ++ range_with_len (start + a) (b - a)) begins ends
    ∙ ap (λ (l : List ℕ). old ++ l) (sym (numbers_of_run start offsets h first count l))

-- and none, where it has none
pub run_unplanned : (start : ℕ) (offsets : List ℕ) (first count from to : ℕ) (old : List ℕ) → is_offsets offsets ≡ true → first + count < length offsets → from ≡ slice_index offsets first → to ≡ slice_index offsets (first + count)
    → to ≤ from → old ≡ old ++ element_numbers start offsets (range_with_len first count)
run_unplanned start offsets first count from to old h l begins ends le =
    let none : 0 ≡ slice_index offsets (first + count) - slice_index offsets first = omega (arith, begins, ends) in
    sym (append-nil old) ∙ ap (λ (n : ℕ). old ++ range_with_len (start + slice_index offsets first) n) none ∙ ap (λ (l : List ℕ). old ++ l) (sym (numbers_of_run start offsets h first count l))

pub ends_more : (f : ℕ → List ℕ) (runs : List (ℕ × ℕ)) (i start : ℕ) (old new : List ℕ) → i < length runs → start ≡ length (flat_map f (joined_runs (take i runs))) → old ≡ 0 ∷ ends 0 (map f (joined_runs (take i runs)))
    → new ≡ old ++ ends start (map f (range_with_len (get_or runs i (0, 0)).0 (get_or runs i (0, 0)).1)) → new ≡ 0 ∷ ends 0 (map f (joined_runs (take (i + 1) runs)))
ends_more f runs i start old new l at is put =
    let run = get_or runs i (0, 0) in
    let done = joined_runs (take i runs) in
    let places = range_with_len run.0 run.1 in
    let behind : start ≡ 0 + length (concat (map f done)) = at ∙ ap length (flat_map-concat f done) ∙ sym (zero-add (length (concat (map f done)))) in
    put
    ∙ ap (λ (xs : List ℕ). xs ++ ends start (map f places)) is
    ∙ ap (λ (n : ℕ). 0 ∷ (ends 0 (map f done) ++ ends n (map f places))) behind
    ∙ ap (λ (ns : List ℕ). 0 ∷ ns) (sym (ends-append 0 (map f done) (map f places)))
    ∙ ap (λ (ps : List (List ℕ)). 0 ∷ ends 0 ps) (sym (map-append f done places))
    ∙ ap (λ ps. 0 ∷ ends 0 (map f ps)) (sym (joined_runs-take_more runs i l))

pub start_more : (f : ℕ → List ℕ) (runs : List (ℕ × ℕ)) (i : ℕ) → i < length runs
    → length (flat_map f (joined_runs (take (i + 1) runs))) ≡ length (flat_map f (joined_runs (take i runs))) + length (flat_map f (range_with_len (get_or runs i (0, 0)).0 (get_or runs i (0, 0)).1))
start_more f runs i l =
    ap length (flat_map-take_runs f runs i l)
    ∙ length-append (flat_map f (joined_runs (take i runs))) (flat_map f (range_with_len (get_or runs i (0, 0)).0 (get_or runs i (0, 0)).1))

-- what comes first is no longer than all
pub start_within : (f : ℕ → List ℕ) (runs : List (ℕ × ℕ)) (i : ℕ) → length (flat_map f (joined_runs (take i runs))) ≤ length (flat_map f (joined_runs runs))
start_within f runs i =
    let whole : flat_map f (joined_runs runs) ≡ flat_map f (joined_runs (take i runs)) ++ flat_map f (joined_runs (drop i runs)) =
    ap (λ (rs : List (ℕ × ℕ)). flat_map f (joined_runs rs)) (sym (take-append-drop i runs))
    ∙ ap (flat_map f) (flat_map-append (λ (run : ℕ × ℕ). range_with_len run.0 run.1) (take i runs) (drop i runs))
    ∙ flat_map-append f (joined_runs (take i runs)) (joined_runs (drop i runs)) in
    omega (arith, ap length whole, length-append (flat_map f (joined_runs (take i runs))) (flat_map f (joined_runs (drop i runs))))

-- how many bytes the runs have up to one more
pub start_next : (offsets : List ℕ) → is_offsets offsets ≡ true → (runs : List (ℕ × ℕ)) (i start : ℕ) → i < length runs → (get_or runs i (0, 0)).0 + (get_or runs i (0, 0)).1 < length offsets
    → start ≡ length (flat_map (element_zeros offsets) (joined_runs (take i runs)))
    → start + (slice_index offsets ((get_or runs i (0, 0)).0 + (get_or runs i (0, 0)).1) - slice_index offsets (get_or runs i (0, 0)).0) ≡ length (flat_map (element_zeros offsets) (joined_runs (take (i + 1) runs)))
start_next offsets h runs i start l known at =
    let run = get_or runs i (0, 0) in
    let more = start_more (element_zeros offsets) runs i l in
    let one = blank_run offsets h run.0 run.1 known in
    omega (arith, at, more, one)

pub start_fits : (offsets : List ℕ) → is_offsets offsets ≡ true → (runs : List (ℕ × ℕ)) (i start limit : ℕ) → i < length runs → (get_or runs i (0, 0)).0 + (get_or runs i (0, 0)).1 < length offsets
    → start ≡ length (flat_map (element_zeros offsets) (joined_runs (take i runs))) → length (flat_map (element_zeros offsets) (joined_runs runs)) < limit
    → start + (slice_index offsets ((get_or runs i (0, 0)).0 + (get_or runs i (0, 0)).1) - slice_index offsets (get_or runs i (0, 0)).0) < limit
start_fits offsets h runs i start limit l known at fits =
    omega (arith, start_next offsets h runs i start l known at, start_within (element_zeros offsets) runs (i + 1), fits)

-- ---- the container

gathered_at : (f : ℕ → List ℕ) (places : List ℕ) (k : ℕ) → k < length places → cut (0 ∷ ends 0 (map f places)) (flat_map f places) k ≡ f (get_or places k 0)
gathered_at f places k l = rw add-one (cut_at f [] 0 places k 0 refl l)

counted : (n : ℕ) → n + 1 < 2 ^ 64 → nat_lt (n + 1) (2 ^ 64) ≡ true
counted n l = grind (arith, nat_tests)

gathered_text : (type : ElementType) → is_variable type ≡ true → (raw : Raw) (offsets : List ℕ) (n : ℕ) → length offsets ≡ n + 1 → n + 1 < 2 ^ 64 → validity type n (vlen raw offsets) ≡ Ok tt
gathered_text (fixed w c s) v raw offsets n e l = absurd cc
gathered_text text v raw offsets n e l = rw (counted n l) (length_due InvalidBytesLength (length offsets) (n + 1) e)
gathered_text bytes v raw offsets n e l = rw (counted n l) (length_due InvalidBytesLength (length offsets) (n + 1) e)
gathered_text (optional type) v raw offsets n e l = absurd cc

variable_at : (type : ElementType) → is_variable type ≡ true → (raw : Raw) (offsets : List ℕ) (k : ℕ) → element_at type (vlen raw offsets) k ≡ plain (cut offsets raw.items k)
variable_at (fixed w c s) v raw offsets k = absurd cc
variable_at text v raw offsets k = refl
variable_at bytes v raw offsets k = refl
variable_at (optional type) v raw offsets k = absurd cc

-- bytes that are joined, with their ends, hold the elements
pub gathered_holds : (type : ElementType) → is_variable type ≡ true → (f : ℕ → List ℕ) (places items offsets : List ℕ) → items ≡ flat_map f places → offsets ≡ 0 ∷ ends 0 (map f places) → length offsets < 2 ^ 64
    → Holds type (vlen (owned_bytes items) offsets) (map (λ place. plain (f place)) places)
gathered_holds type v f places items offsets is ended small =
    let chunk : Chunk = map (λ place. plain (f place)) places in
    let many : length chunk ≡ length places = length-map places (λ place. plain (f place)) in
    let long : length offsets ≡ length places + 1 = ap length ended ∙ ap suc (length_ends 0 (map f places) ∙ length-map places f) ∙ (let e : suc (length places) ≡ length places + 1 = omega arith in e) in
    let each : (k : ℕ) → k < length places → get_or chunk k absent ≡ element_at type (vlen (owned_bytes items) offsets) k = λ k l.
    get_or-map (λ place. plain (f place)) places k 0 absent l
    ∙ ap plain (sym (gathered_at f places k l))
    ∙ ap₂ (λ (os xs : List ℕ). plain (cut os xs k)) (sym ended) (sym is)
    ∙ sym (variable_at type v (owned_bytes items) offsets k) in
    record {
      valid = rw many (gathered_text type v (owned_bytes items) offsets (length places) long (omega (arith, long, small)));
      elements_are = rw many (sym (fill_by_all (element_at type (vlen (owned_bytes items) offsets)) chunk (length places) absent many each));
    }

pub gathered_rises : (f : ℕ → List ℕ) (places offsets : List ℕ) → offsets ≡ 0 ∷ ends 0 (map f places) → is_offsets offsets ≡ true
gathered_rises f places offsets ended = rw ended (ends_rise 0 (map f places))

pub gathered_ends : (f : ℕ → List ℕ) (places items offsets : List ℕ) → length items ≡ length (flat_map f places) → offsets ≡ 0 ∷ ends 0 (map f places) → last_of offsets ≡ length items
gathered_ends f places items offsets long ended =
    ap last_of ended ∙ offsets_end f places ∙ sym long

-- offsets that are counted from nothing are flush
pub gathered_flush : (f : ℕ → List ℕ) (places items offsets : List ℕ) → length items ≡ length (flat_map f places) → offsets ≡ 0 ∷ ends 0 (map f places) → are_flush offsets items ≡ true
gathered_flush f places items offsets long ended =
    let first : (slice_index offsets 0 == 0) ≡ true = rw ended refl in
    let last : (last_of offsets == length items) ≡ true = eq-eqb (last_of offsets) (length items) (gathered_ends f places items offsets long ended) in
    rw (gathered_rises f places offsets ended, first, last) refl
