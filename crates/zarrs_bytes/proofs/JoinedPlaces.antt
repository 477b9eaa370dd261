-- The runs of consecutive places, one place more at a time, and their ranges.
use Rattle.std.proofs.Common.{◌≡◌, ◌≢◌, ℕ, zero, suc, ◌+◌, ◌-◌, ◌*◌, ◌/◌, ◌<◌, ◌≤◌, ◌==◌, nat_lt, true, false, if◌then◌else◌, List, [], ◌∷◌, ◌++◌, length, map, take, drop, get_or, arith, refl, ap, ap₂, sym, ◌∙◌, inl, inr, subst}
use Rattle.std.specs.List.{range_with_len}
use Rattle.std.proofs.Math.Nat.{mul-div_cancel}
use Rattle.std.proofs.lemmas.Bool.{cases_eq, cases_lt}
use Rattle.std.proofs.lemmas.Bool.Decides.{nat_tests}
use Rattle.std.proofs.lemmas.List.{append-nil, length-append, take_more}
use Rattle.std.proofs.lemmas.List.Elements.{All-cons, All-tail}
use Rattle.zarrs_chunk.specs.Runs.{joined_runs, AreApart, AreFilled}
use Rattle.zarrs_codec.specs.ByteRanges.{range_indices}
use Rattle.zarrs_codec.specs.ByteSpan.{ByteSpan}
use Rattle.zarrs_bytes.specs.AskedRanges.{GoesOn, ranges_of, ranges_of_places, ranges_of_runs, span_range, with_range}
use Rattle.zarrs_bytes.specs.PartialRead.{place_bytes}
use Rattle.zarrs_bytes.specs.PlannedRanges.{element_span, spans, IsPlan}
use Rattle.zarrs_bytes.specs.ReadingCalls.{consecutive_runs, with_place_before}
use Rattle.zarrs_bytes.proofs.ConsecutiveRuns.{one_run, tested, untested}
use Rattle.zarrs_bytes.proofs.Ranges.{place_bytes-append, place_bytes-run, plan_of_runs}

-- a place behind these runs: the last of them goes on with it where it follows, and else it is a run of its own
abbrev with_place_behind : List (ℕ × ℕ) → ℕ → List (ℕ × ℕ)
with_place_behind [] place = (place, 1) ∷ []
with_place_behind (run ∷ []) place = if place == run.0 + run.1 then (run.0, suc run.1) ∷ [] else run ∷ (place, 1) ∷ []
with_place_behind (run ∷ next ∷ runs) place = run ∷ with_place_behind (next ∷ runs) place

before_behind : (first : ℕ) (runs : List (ℕ × ℕ)) (place : ℕ) → with_place_before first (with_place_behind runs place) ≡ with_place_behind (with_place_before first runs) place
before_behind first [] place = refl
before_behind first (run ∷ []) place = elim (cases_eq run.0 (first + 1)) [
  | inl follows ↦ (elim (cases_eq place (run.0 + run.1)) [
    | inl on ↦ (
        let on_too : place ≡ first + suc run.1 = omega (arith, on, follows) in
        ap (with_place_before first) (tested place (run.0 + run.1) _ _ on)
        ∙ tested run.0 (first + 1) _ _ follows
        ∙ sym (ap (λ rs. with_place_behind rs place) (tested run.0 (first + 1) _ _ follows) ∙ tested place (first + suc run.1) _ _ on_too))
    | inr off ↦ (
        let off_too : first + suc run.1 ≢ place = λ e. off (omega (arith, e, follows)) in
        ap (with_place_before first) (untested place (run.0 + run.1) _ _ (λ e. off (sym e)))
        ∙ tested run.0 (first + 1) _ _ follows
        ∙ sym (ap (λ rs. with_place_behind rs place) (tested run.0 (first + 1) _ _ follows) ∙ untested place (first + suc run.1) _ _ off_too))
  ])
  | inr apart ↦ (elim (cases_eq place (run.0 + run.1)) [
    | inl on ↦ (
        ap (with_place_before first) (tested place (run.0 + run.1) _ _ on)
        ∙ untested run.0 (first + 1) _ _ (λ e. apart (sym e))
        ∙ sym (ap (λ rs. with_place_behind rs place) (untested run.0 (first + 1) _ _ (λ e. apart (sym e))) ∙ ap (λ (rs : List (ℕ × ℕ)). (first, 1) ∷ rs) (tested place (run.0 + run.1) _ _ on)))
    | inr off ↦ (
        ap (with_place_before first) (untested place (run.0 + run.1) _ _ (λ e. off (sym e)))
        ∙ untested run.0 (first + 1) _ _ (λ e. apart (sym e))
        ∙ sym (ap (λ rs. with_place_behind rs place) (untested run.0 (first + 1) _ _ (λ e. apart (sym e))) ∙ ap (λ (rs : List (ℕ × ℕ)). (first, 1) ∷ rs) (untested place (run.0 + run.1) _ _ (λ e. off (sym e)))))
  ])
]
before_behind first (run ∷ next ∷ runs) place = elim (cases_eq run.0 (first + 1)) [
  | inl follows ↦ (tested run.0 (first + 1) _ _ follows ∙ sym (ap (λ rs. with_place_behind rs place) (tested run.0 (first + 1) _ _ follows)))
  | inr apart ↦ (untested run.0 (first + 1) _ _ (λ e. apart (sym e)) ∙ sym (ap (λ rs. with_place_behind rs place) (untested run.0 (first + 1) _ _ (λ e. apart (sym e)))))
]

-- one place more
one_more : (places : List ℕ) (place : ℕ) → consecutive_runs (places ++ place ∷ []) ≡ with_place_behind (consecutive_runs places) place
one_more [] place = refl
one_more (first ∷ places) place =
    ap (with_place_before first) (one_more places place) ∙ before_behind first (consecutive_runs places) place

-- ---- the ranges of a place more

same_place : (size a b : ℕ) → 0 < size → a * size ≡ b * size → a ≡ b
same_place size a b some e = sym (mul-div_cancel a some) ∙ ap (λ n. n / size) e ∙ mul-div_cancel b some

-- the last range goes on
goes_on : (size place : ℕ) (ranges : List ByteSpan) (runs : List (ℕ × ℕ)) (start end : ℕ) → 0 < size → place * size ≡ end → ranges ++ span_range (start, end) ∷ [] ≡ ranges_of_runs size runs
    → ranges ++ span_range (start, place * size + size) ∷ [] ≡ ranges_of_runs size (with_place_behind runs place)
goes_on size place [] [] start end some here is = absurd (let n = ap length is in omega (arith, n))
goes_on size place (range ∷ ranges) [] start end some here is = absurd (let n = ap length is in omega (arith, n))
goes_on size place [] (run ∷ next ∷ runs) start end some here is = absurd (let n = ap length is in omega (arith, n))
goes_on size place (range ∷ ranges) (run ∷ []) start end some here is =
    absurd (let n = ap length is in let m = length-append ranges (span_range (start, end) ∷ []) in omega (arith, n, m))
goes_on size place [] (run ∷ []) start end some here is =
    let starts : start ≡ run.0 * size = ap (λ (rs : List ByteSpan). (get_or rs 0 (span_range (0, 0))).start) is in
    let ends : end ≡ (run.0 + run.1) * size = ap (λ (rs : List ByteSpan). (get_or rs 0 (span_range (0, 0))).end) is in
    let on : place ≡ run.0 + run.1 = same_place size place (run.0 + run.1) some (here ∙ ends) in
    let last : place * size + size ≡ (run.0 + suc run.1) * size = ap (λ n. n * size + size) on ∙ (let all : (run.0 + run.1) * size + size ≡ (run.0 + suc run.1) * size = omega arith in all) in
    ap₂ (λ (s e : ℕ). span_range (s, e) ∷ []) starts last
    ∙ sym (ap (ranges_of_runs size) (tested place (run.0 + run.1) _ _ on))
goes_on size place (range ∷ ranges) (run ∷ next ∷ runs) start end some here is =
    let first : range ≡ span_range (element_span size run) = ap (λ (rs : List ByteSpan). get_or rs 0 (span_range (0, 0))) is in
    let rest : ranges ++ span_range (start, end) ∷ [] ≡ ranges_of_runs size (next ∷ runs) = ap (λ (rs : List ByteSpan). drop 1 rs) is in
    ap₂ (λ (r : ByteSpan) (rs : List ByteSpan). r ∷ rs) first (goes_on size place ranges (next ∷ runs) start end some here rest)

-- a new range begins
begins : (size place : ℕ) (ranges : List ByteSpan) (runs : List (ℕ × ℕ)) (start end : ℕ) → place * size ≢ end → ranges ++ span_range (start, end) ∷ [] ≡ ranges_of_runs size runs
    → (ranges ++ span_range (start, end) ∷ []) ++ span_range (place * size, place * size + size) ∷ [] ≡ ranges_of_runs size (with_place_behind runs place)
begins size place [] [] start end elsewhere is = absurd (let n = ap length is in omega (arith, n))
begins size place (range ∷ ranges) [] start end elsewhere is = absurd (let n = ap length is in omega (arith, n))
begins size place [] (run ∷ next ∷ runs) start end elsewhere is = absurd (let n = ap length is in omega (arith, n))
begins size place (range ∷ ranges) (run ∷ []) start end elsewhere is =
    absurd (let n = ap length is in let m = length-append ranges (span_range (start, end) ∷ []) in omega (arith, n, m))
begins size place [] (run ∷ []) start end elsewhere is =
    let ends : end ≡ (run.0 + run.1) * size = ap (λ (rs : List ByteSpan). (get_or rs 0 (span_range (0, 0))).end) is in
    let off : run.0 + run.1 ≢ place = λ e. elsewhere (sym (ends ∙ ap (λ n. n * size) e)) in
    let last : place * size + size ≡ (place + 1) * size = omega arith in
    ap₂ (λ (rs : List ByteSpan) (e : ℕ). rs ++ span_range (place * size, e) ∷ []) is last
    ∙ sym (ap (ranges_of_runs size) (untested place (run.0 + run.1) _ _ off))
begins size place (range ∷ ranges) (run ∷ next ∷ runs) start end elsewhere is =
    let first : range ≡ span_range (element_span size run) = ap (λ (rs : List ByteSpan). get_or rs 0 (span_range (0, 0))) is in
    let rest : ranges ++ span_range (start, end) ∷ [] ≡ ranges_of_runs size (next ∷ runs) = ap (λ (rs : List ByteSpan). drop 1 rs) is in
    ap₂ (λ (r : ByteSpan) (rs : List ByteSpan). r ∷ rs) first (begins size place ranges (next ∷ runs) start end elsewhere rest)

no_runs : (size : ℕ) (runs : List (ℕ × ℕ)) → [] ≡ ranges_of_runs size runs → runs ≡ []
no_runs size [] is = refl
no_runs size (run ∷ runs) is = absurd (let n = ap length is in omega (arith, n))

there : (ranges : List ByteSpan) (start end : ℕ) → start < end → with_range ranges start end ≡ ranges ++ span_range (start, end) ∷ []
there ranges start end lt = let test : nat_lt start end ≡ true = grind (arith, nat_tests) in rw test refl

not_there : (ranges : List ByteSpan) (start end : ℕ) → end ≤ start → with_range ranges start end ≡ ranges
not_there ranges start end le = let test : nat_lt start end ≡ false = grind (arith, nat_tests) in rw test refl

place_behind : (size place : ℕ) (ranges next : List ByteSpan) (runs : List (ℕ × ℕ)) (start end begin : ℕ) → 0 < size → start ≤ end → (start ≡ end → ranges ≡ []) → with_range ranges start end ≡ ranges_of_runs size runs → GoesOn ranges next start end (place * size) begin → begin ≤ place * size
    → with_range next begin (place * size + size) ≡ ranges_of_runs size (with_place_behind runs place)
place_behind size place ranges next runs start end begin some ordered empty is step below =
    there next begin (place * size + size) (omega (arith, below, some)) ∙ elim (cases_lt start end) [
      | inl lt ↦ (
          let closed : ranges ++ span_range (start, end) ∷ [] ≡ ranges_of_runs size runs = sym (there ranges start end lt) ∙ is in
          elim (cases_eq (place * size) end) [
            | inl on ↦ (
                let now = step.joined on in
                ap₂ (λ (rs : List ByteSpan) (s : ℕ). rs ++ span_range (s, place * size + size) ∷ []) now.0 now.1
                ∙ goes_on size place ranges runs start end some on closed)
            | inr off ↦ (
                let now = step.apart off in
                ap₂ (λ (rs : List ByteSpan) (s : ℕ). rs ++ span_range (s, place * size + size) ∷ []) (now.0 ∙ there ranges start end lt) now.1
                ∙ begins size place ranges runs start end off closed)
          ])
      | inr le ↦ (
          let same : start ≡ end = omega (arith, ordered, le) in
          let none : ranges ≡ [] = empty same in
          let no : runs ≡ [] = no_runs size runs (sym none ∙ sym (not_there ranges start end le) ∙ is) in
          let last : place * size + size ≡ (place + 1) * size = omega arith in
          let now : (next ≡ []) × (begin ≡ place * size) = elim (cases_eq (place * size) end) [
            | inl on ↦ (let now = step.joined on in (now.0 ∙ none, now.1 ∙ same ∙ sym on))
            | inr off ↦ (let now = step.apart off in (now.0 ∙ not_there ranges start end le ∙ none, now.1))
          ] in
          ap₂ (λ (rs : List ByteSpan) (s : ℕ). rs ++ span_range (s, place * size + size) ∷ []) now.0 now.1
          ∙ ap (λ (e : ℕ). span_range (place * size, e) ∷ []) last
          ∙ sym (ap (λ (rs : List (ℕ × ℕ)). ranges_of_runs size (with_place_behind rs place)) no))
    ]

-- the ranges of one place more
pub place_more : (size : ℕ) (places : List ℕ) (index d : ℕ) (ranges next : List ByteSpan) (start end begin : ℕ) → index < length places → 0 < size → start ≤ end → (start ≡ end → ranges ≡ []) → with_range ranges start end ≡ ranges_of_places size (take index places) → GoesOn ranges next start end (get_or places index d * size) begin → begin ≤ get_or places index d * size
    → with_range next begin (get_or places index d * size + size) ≡ ranges_of_places size (take (index + 1) places)
place_more size places index d ranges next start end begin lt some ordered empty is step below =
    place_behind size (get_or places index d) ranges next (consecutive_runs (take index places)) start end begin some ordered empty is step below
    ∙ sym (ap (ranges_of_runs size) (ap consecutive_runs (take_more places index d lt) ∙ one_more (take index places) (get_or places index d)))

-- ---- the ranges of places are their plan

joined_before : (place : ℕ) (runs : List (ℕ × ℕ)) → joined_runs (with_place_before place runs) ≡ place ∷ joined_runs runs
joined_before place [] = refl
joined_before place (run ∷ runs) = elim (cases_eq run.0 (place + 1)) [
  | inl follows ↦ (
      ap joined_runs (tested run.0 (place + 1) _ _ follows)
      ∙ ap (λ n. place ∷ range_with_len n run.1 ++ joined_runs runs) (sym follows))
  | inr apart ↦ ap joined_runs (untested run.0 (place + 1) _ _ (λ e. apart (sym e)))
]

joined_places : (places : List ℕ) → joined_runs (consecutive_runs places) ≡ places
joined_places [] = refl
joined_places (place ∷ places) =
    joined_before place (consecutive_runs places) ∙ ap (λ (ps : List ℕ). place ∷ ps) (joined_places places)

filled_before : (place : ℕ) (runs : List (ℕ × ℕ)) → AreFilled runs → AreFilled (with_place_before place runs)
filled_before place [] h = All-cons (λ (r : ℕ × ℕ). 0 < r.1) (place, 1) [] (omega arith) h
filled_before place (run ∷ runs) h = elim (cases_eq run.0 (place + 1)) [
  | inl follows ↦ subst AreFilled (sym (tested run.0 (place + 1) _ _ follows)) (All-cons (λ (r : ℕ × ℕ). 0 < r.1) (place, suc run.1) runs (omega arith) (All-tail (λ (r : ℕ × ℕ). 0 < r.1) run runs h))
  | inr apart ↦ subst AreFilled (sym (untested run.0 (place + 1) _ _ (λ e. apart (sym e)))) (All-cons (λ (r : ℕ × ℕ). 0 < r.1) (place, 1) (run ∷ runs) (omega arith) h)
]

filled_places : (places : List ℕ) → AreFilled (consecutive_runs places)
filled_places [] = λ k d l. absurd (omega arith)
filled_places (place ∷ places) = filled_before place (consecutive_runs places) (filled_places places)

apart_longer : (place : ℕ) (run : ℕ × ℕ) (runs : List (ℕ × ℕ)) → run.0 ≡ place + 1 → AreApart (run ∷ runs) → AreApart ((place, suc run.1) ∷ runs)
apart_longer place run runs follows h = λ k d.
    elim k as (λ j. j + 1 < length ((place, suc run.1) ∷ runs) → (get_or ((place, suc run.1) ∷ runs) j d).0 + (get_or ((place, suc run.1) ∷ runs) j d).1 ≢ (get_or ((place, suc run.1) ∷ runs) (j + 1) d).0) [
      | zero ↦ (λ l e. h 0 d l (let more : run.0 + run.1 ≡ place + suc run.1 = omega (arith, follows) in more ∙ e))
      | suc j ↦ (λ l. let next : suc j + 1 ≡ suc (j + 1) = omega arith in rw next (rw next at (h (suc j) d (omega arith))))
    ]

apart_behind : (place : ℕ) (run : ℕ × ℕ) (runs : List (ℕ × ℕ)) → place + 1 ≢ run.0 → AreApart (run ∷ runs) → AreApart ((place, 1) ∷ run ∷ runs)
apart_behind place run runs apart h = λ k d.
    elim k as (λ j. j + 1 < length ((place, 1) ∷ run ∷ runs) → (get_or ((place, 1) ∷ run ∷ runs) j d).0 + (get_or ((place, 1) ∷ run ∷ runs) j d).1 ≢ (get_or ((place, 1) ∷ run ∷ runs) (j + 1) d).0) [
      | zero ↦ (λ l. apart)
      | suc j ↦ (λ l. let next : suc j + 1 ≡ suc (j + 1) = omega arith in rw next (h j d (omega arith)))
    ]

apart_before : (place : ℕ) (runs : List (ℕ × ℕ)) → AreApart runs → AreApart (with_place_before place runs)
apart_before place [] h = λ k d l. absurd (omega arith)
apart_before place (run ∷ runs) h = elim (cases_eq run.0 (place + 1)) [
  | inl follows ↦ subst AreApart (sym (tested run.0 (place + 1) _ _ follows)) (apart_longer place run runs follows h)
  | inr apart ↦ subst AreApart (sym (untested run.0 (place + 1) _ _ (λ e. apart (sym e)))) (apart_behind place run runs (λ e. apart (sym e)) h)
]

apart_places : (places : List ℕ) → AreApart (consecutive_runs places)
apart_places [] = λ k d l. absurd (omega arith)
apart_places (place ∷ places) = apart_before place (consecutive_runs places) (apart_places places)

each_span : (all : List (ℕ × ℕ)) → spans (ranges_of all) ≡ all
each_span [] = refl
each_span (span ∷ all) = ap (λ (ss : List (ℕ × ℕ)). span ∷ ss) (each_span all)

range_bytes : (size : ℕ) (runs : List (ℕ × ℕ)) → range_indices (ranges_of_runs size runs) ≡ place_bytes size (joined_runs runs)
range_bytes size [] = refl
range_bytes size (run ∷ runs) =
    let long : (run.0 + run.1) * size - run.0 * size ≡ run.1 * size = omega arith in
    ap₂ (λ (n : ℕ) (ns : List ℕ). range_with_len (run.0 * size) n ++ ns) long (range_bytes size runs)
    ∙ ap (λ (ns : List ℕ). ns ++ place_bytes size (joined_runs runs)) (sym (place_bytes-run size run.0 run.1))
    ∙ sym (place_bytes-append size (range_with_len run.0 run.1) (joined_runs runs))

pub asked_as_planned : (size : ℕ) (places : List ℕ) → IsPlan size places (ranges_of_places size places)
asked_as_planned size places =
    let runs = consecutive_runs places in
    subst (λ (ps : List ℕ). IsPlan size ps (ranges_of_places size places)) (joined_places places)
    (plan_of_runs size runs (ranges_of_runs size runs) (filled_places places) (apart_places places) (each_span (map (element_span size) runs)) (range_bytes size runs))

pub run_is_one_range : (size start len : ℕ) → 0 < len → ranges_of_places size (range_with_len start len) ≡ span_range (start * size, (start + len) * size) ∷ []
run_is_one_range size start len some =
    ap (ranges_of_runs size) (ap consecutive_runs (sym (append-nil (range_with_len start len))) ∙ one_run start len [] some tt refl)
