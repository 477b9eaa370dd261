-- Which ranges a read in part has asked for, call by call.
use Rattle.std.proofs.Common.{◌≡◌, ◌∙◌, ℕ, zero, suc, ◌+◌, ◌-◌, ◌*◌, ◌≤◌, ◌||◌, min, nat_le, Bool, true, false, if◌then◌else◌, Option, Some, None, List, [], ◌∷◌, ◌++◌, length, map, take, drop, arith, refl, sym, ap, ap₂, inl, inr}
use Rattle.std.specs.Prelude.{is_some}
use Rattle.std.specs.List.{concat, flat_map, range_with_len}
use Rattle.std.proofs.lemmas.Bool.{cases_lt}
use Rattle.std.proofs.lemmas.Bool.Decides.{nat_tests}
use Rattle.std.proofs.lemmas.List.{append-nil, drop-drop, drop_all, length-drop, map-append, nil_from_length, take_all}
use Rattle.zarrs_array_bytes.specs.Elements.{piece}
use Rattle.zarrs_codec.specs.ByteSpan.{ByteSpan}
use Rattle.zarrs_codec.specs.Calls.{after_asking}
use Rattle.zarrs_codec.proofs.CallLemmas.{after_asking-more, after_asking-none}
use Rattle.zarrs_bytes.specs.AskedRanges.{asked_by_batches, asked_for_places, asked_for_runs, ranges_by_batches, ranges_of, ranges_of_places, ranges_of_runs, span_range}
use Rattle.zarrs_bytes.specs.PartialRead.{bytes_at}
use Rattle.zarrs_bytes.specs.PlannedRanges.{element_span, spans}
use Rattle.zarrs_bytes.specs.ReadingCalls.{are_many_short, are_scattered, batch_count, consecutive_runs}
use Rattle.zarrs_bytes.proofs.BytesAt.{has_all, none_if}
use Rattle.zarrs_bytes.proofs.CallCounts.{few_not_scattered, few_not_short, no_bytes}

of_spans : (ranges : List ByteSpan) → ranges ≡ ranges_of (spans ranges)
of_spans [] = refl
of_spans (range ∷ ranges) = ap (λ (rs : List ByteSpan). range ∷ rs) (of_spans ranges)

-- ranges by where they start and end
pub ranges_by_spans : (ranges : List ByteSpan) (all : List (ℕ × ℕ)) → spans ranges ≡ all → ranges ≡ ranges_of all
ranges_by_spans ranges all is = of_spans ranges ∙ ap ranges_of is

ranges_of_runs-append : (size : ℕ) (xs ys : List (ℕ × ℕ)) → ranges_of_runs size (xs ++ ys) ≡ ranges_of_runs size xs ++ ranges_of_runs size ys
ranges_of_runs-append size xs ys =
    ap ranges_of (map-append (element_span size) xs ys) ∙ map-append span_range (map (element_span size) xs) (map (element_span size) ys)

-- ---- call by call

-- what is left to be asked for, after the first of it
asked_more : (first more rest : List ByteSpan) (before after all : Option (List ByteSpan)) → first ++ more ≡ rest → after ≡ after_asking first before → after_asking rest before ≡ all → after_asking more after ≡ all
asked_more first more rest before after all parts one left =
    ap (after_asking more) one
    ∙ after_asking-more first more before
    ∙ ap (λ (rs : List ByteSpan). after_asking rs before) parts
    ∙ left

-- and where nothing is left
asked_all : (rest : List ByteSpan) (after all : Option (List ByteSpan)) → rest ≡ [] → after_asking rest after ≡ all → after ≡ all
asked_all rest after all none left =
    sym (after_asking-none after) ∙ ap (λ (rs : List ByteSpan). after_asking rs after) (sym none) ∙ left

-- a first call, and all that is behind it
asked_both : (first more all : List ByteSpan) (before mid after : Option (List ByteSpan)) → first ++ more ≡ all → mid ≡ after_asking first before → after ≡ after_asking more mid → after ≡ after_asking all before
asked_both first more all before mid after parts one two =
    two
    ∙ ap (after_asking more) one
    ∙ after_asking-more first more before
    ∙ ap (λ (rs : List ByteSpan). after_asking rs before) parts

-- ---- runs

pub runs_asked : (size : ℕ) (rest front back : List (ℕ × ℕ)) (before after all : Option (List ByteSpan)) → rest ≡ front ++ back → after ≡ after_asking (ranges_of_runs size front) before → after_asking (ranges_of_runs size rest) before ≡ all → after_asking (ranges_of_runs size back) after ≡ all
runs_asked size rest front back before after all parts one left =
    asked_more (ranges_of_runs size front) (ranges_of_runs size back) (ranges_of_runs size rest) before after all (sym (ranges_of_runs-append size front back) ∙ ap (ranges_of_runs size) (sym parts)) one left

pub runs_done : (size : ℕ) (rest : List (ℕ × ℕ)) (after all : Option (List ByteSpan)) → length rest ≡ 0 → after_asking (ranges_of_runs size rest) after ≡ all → after ≡ all
runs_done size rest after all none left =
    asked_all (ranges_of_runs size rest) after all (ap (ranges_of_runs size) (nil_from_length rest none)) left

-- where nothing is stored, those of the first call are all
pub none_asked : (size : ℕ) (stored : Option (List ℕ)) (places : List ℕ) (runs front : List (ℕ × ℕ)) (before after : Option (List ByteSpan)) → bytes_at size stored places ≡ no_bytes → front ≡ take (if are_many_short size runs then 1024 else length runs) runs → after ≡ after_asking (ranges_of_runs size front) before → after ≡ after_asking (asked_for_runs size stored runs) before
none_asked size None places runs front before after read is one = one ∙ ap (λ rs. after_asking (ranges_of_runs size rs) before) is
none_asked size (Some value) places runs front before after read is one = none_if (has_all size value places) (concat (map (piece size value) places)) _ read

-- of a stored value the others follow
pub some_asked : (size : ℕ) (stored : Option (List ℕ)) (runs front back : List (ℕ × ℕ)) (before mid after : Option (List ByteSpan)) → is_some stored ≡ true → runs ≡ front ++ back → mid ≡ after_asking (ranges_of_runs size front) before → after ≡ after_asking (ranges_of_runs size back) mid → after ≡ after_asking (asked_for_runs size stored runs) before
some_asked size None runs front back before mid after there parts one two = absurd cc
some_asked size (Some value) runs front back before mid after there parts one two =
    asked_both (ranges_of_runs size front) (ranges_of_runs size back) (ranges_of_runs size runs) before mid after (sym (ranges_of_runs-append size front back) ∙ ap (ranges_of_runs size) (sym parts)) one two

-- ---- batches of places

abbrev nth_batch : ℕ → List ℕ → ℕ → List ByteSpan
nth_batch size places n = ranges_of_places size (take 1024 (drop (n * 1024) places))

next_batches : (size : ℕ) (places : List ℕ) (from count : ℕ) → flat_map (nth_batch size places) (range_with_len (from + 1) count) ≡ flat_map (nth_batch size (drop 1024 places)) (range_with_len from count)
next_batches size places from zero = refl
next_batches size places from (suc count) =
    let more : (from + 1) * 1024 ≡ 1024 + from * 1024 = omega arith in
    let here : drop ((from + 1) * 1024) places ≡ drop (from * 1024) (drop 1024 places)
    = ap (λ n. drop n places) more ∙ sym (drop-drop (from * 1024) 1024 places) in
    ap₂ (λ (ps : List ℕ) (rs : List ByteSpan). ranges_of_places size (take 1024 ps) ++ rs) here (next_batches size places (from + 1) count)

-- the first batch, and the others
first_batch : (size : ℕ) (places : List ℕ) → ranges_of_places size (take 1024 places) ++ ranges_by_batches size (drop 1024 places) ≡ ranges_by_batches size places
first_batch size [] = refl
first_batch size (place ∷ places) =
    let all = place ∷ places in
    let count : suc (batch_count (length (drop 1024 all))) ≡ batch_count (length all) = omega (arith, length-drop 1024 all) in
    ap (λ (rs : List ByteSpan). ranges_of_places size (take 1024 all) ++ rs) (sym (next_batches size all 0 (batch_count (length (drop 1024 all)))))
    ∙ ap (λ n. flat_map (nth_batch size all) (range_with_len 0 n)) count

taken : (places : List ℕ) → take (min 1024 (length places)) places ≡ take 1024 places
taken places = elim (cases_lt 1024 (length places)) [
  | inl more ↦ (let n : min 1024 (length places) ≡ 1024 = omega (arith, more) in ap (λ k. take k places) n)
  | inr few ↦ (let n : min 1024 (length places) ≡ length places = omega (arith, few) in ap (λ k. take k places) n ∙ take_all (length places) places (omega arith) ∙ sym (take_all 1024 places few))
]

dropped : (places : List ℕ) → drop (min 1024 (length places)) places ≡ drop 1024 places
dropped places = elim (cases_lt 1024 (length places)) [
  | inl more ↦ (let n : min 1024 (length places) ≡ 1024 = omega (arith, more) in ap (λ k. drop k places) n)
  | inr few ↦ (let n : min 1024 (length places) ≡ length places = omega (arith, few) in ap (λ k. drop k places) n ∙ drop_all (length places) places (omega arith) ∙ sym (drop_all 1024 places few))
]

batch_parts : (size : ℕ) (rest front back : List ℕ) (n : ℕ) → n ≡ min 1024 (length rest) → front ≡ take n rest → back ≡ drop n rest → ranges_of_places size front ++ ranges_by_batches size back ≡ ranges_by_batches size rest
batch_parts size rest front back n count first more =
    ap₂ (λ (xs ys : List ℕ). ranges_of_places size xs ++ ranges_by_batches size ys) (first ∙ ap (λ k. take k rest) count ∙ taken rest) (more ∙ ap (λ k. drop k rest) count ∙ dropped rest)
    ∙ first_batch size rest

pub batch_asked : (size : ℕ) (rest front back : List ℕ) (n : ℕ) (before after all : Option (List ByteSpan)) → n ≡ min 1024 (length rest) → front ≡ take n rest → back ≡ drop n rest → after ≡ after_asking (ranges_of_places size front) before → after_asking (ranges_by_batches size rest) before ≡ all → after_asking (ranges_by_batches size back) after ≡ all
batch_asked size rest front back n before after all count first more one left =
    asked_more (ranges_of_places size front) (ranges_by_batches size back) (ranges_by_batches size rest) before after all (batch_parts size rest front back n count first more) one left

pub batches_asked : (size : ℕ) (rest : List ℕ) (after all : Option (List ByteSpan)) → length rest ≡ 0 → after_asking (ranges_by_batches size rest) after ≡ all → after ≡ all
batches_asked size rest after all none left =
    asked_all (ranges_by_batches size rest) after all (ap (ranges_by_batches size) (nil_from_length rest none)) left

-- where nothing is stored, those of the first batch are all
pub none_by_batches_asked : (size : ℕ) (stored : Option (List ℕ)) (places front : List ℕ) (n : ℕ) (before after : Option (List ByteSpan)) → bytes_at size stored front ≡ no_bytes → n ≡ min 1024 (length places) → front ≡ take n places → after ≡ after_asking (ranges_of_places size front) before → after ≡ after_asking (asked_by_batches size stored places) before
none_by_batches_asked size None places front n before after read count is one =
    one ∙ ap (λ (ps : List ℕ). after_asking (ranges_of_places size ps) before) (is ∙ ap (λ k. take k places) count ∙ taken places)
none_by_batches_asked size (Some value) places front n before after read count is one = none_if (has_all size value front) (concat (map (piece size value) front)) _ read

-- of a stored value the others follow
pub some_by_batches_asked : (size : ℕ) (stored : Option (List ℕ)) (places front back : List ℕ) (n : ℕ) (before mid after : Option (List ByteSpan)) → is_some stored ≡ true → n ≡ min 1024 (length places) → front ≡ take n places → back ≡ drop n places → mid ≡ after_asking (ranges_of_places size front) before → after ≡ after_asking (ranges_by_batches size back) mid → after ≡ after_asking (asked_by_batches size stored places) before
some_by_batches_asked size None places front back n before mid after there count first more one two = absurd cc
some_by_batches_asked size (Some value) places front back n before mid after there count first more one two =
    asked_both (ranges_of_places size front) (ranges_by_batches size back) (ranges_by_batches size places) before mid after (batch_parts size places front back n count first more) one two

-- ---- places

few_in_one : (size : ℕ) (places : List ℕ) → length places ≤ 1024 → ranges_by_batches size places ≡ ranges_of_places size places
few_in_one size places few =
    sym (first_batch size places)
    ∙ ap₂ (λ (xs ys : List ℕ). ranges_of_places size xs ++ ranges_by_batches size ys) (take_all 1024 places few) (drop_all 1024 places few)
    ∙ append-nil (ranges_of_places size places)

-- few places are asked for in one call
few_asked : (size : ℕ) (stored : Option (List ℕ)) (places : List ℕ) → length places ≤ 1024 → asked_by_batches size stored places ≡ asked_for_places size stored places
few_asked size None places few =
    let runs = consecutive_runs places in
    let whole = few_not_scattered places few in
    let long = few_not_short size places few in
    let all : take (length runs) runs ≡ runs = take_all (length runs) runs (omega arith) in
    rw (whole, long, all) (ap (ranges_of_places size) (take_all 1024 places few))
few_asked size (Some value) places few =
    let whole = few_not_scattered places few in
    rw whole (few_in_one size places few)

-- so are all that are asked for by batches
pub by_batches_asked : (size : ℕ) (stored : Option (List ℕ)) (places : List ℕ) → (nat_le (length places) 1024 || are_scattered places) ≡ true → asked_by_batches size stored places ≡ asked_for_places size stored places
by_batches_asked size stored places test = elim (cases_lt 1024 (length places)) [
  | inl more ↦ (
      let no : nat_le (length places) 1024 ≡ false = grind (arith, nat_tests) in
      let scattered : are_scattered places ≡ true = sym (ap (λ (b : Bool). b || are_scattered places) no) ∙ test in
      rw scattered refl)
  | inr few ↦ few_asked size stored places few
]

-- others are asked for as their runs
pub by_runs_asked : (size : ℕ) (stored : Option (List ℕ)) (places : List ℕ) (runs : List (ℕ × ℕ)) → are_scattered places ≡ false → runs ≡ consecutive_runs places → asked_for_runs size stored runs ≡ asked_for_places size stored places
by_runs_asked size stored places runs test is = rw test (ap (asked_for_runs size stored) is)
