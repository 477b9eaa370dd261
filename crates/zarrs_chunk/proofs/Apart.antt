-- Runs of which none starts where the one before it ends.
use Rattle.std.proofs.Common.{◌≡◌, ℕ, zero, suc, ◌+◌, ◌-◌, ◌*◌, ◌<◌, ◌≤◌, List, [], ◌∷◌, ◌++◌, length, get_or, take, set, map, arith, ap, ◌∙◌, sym, inl, inr}
use Rattle.std.specs.Prelude.{◌≢◌, ⊤, ltb}
use Rattle.std.specs.List.{range_with_len}
use Rattle.std.proofs.Math.Nat.{mul-le-mul_right}
use Rattle.std.proofs.Math.Seq.{set-append_seam}
use Rattle.std.proofs.lemmas.Bool.{cases_Bool, ltb-true, ltb-false}
use Rattle.std.proofs.lemmas.List.{take_more, take_all, append_assoc, length-take}
use Rattle.zarrs_chunk.specs.Runs.{joined_runs, AreApart}
use Rattle.zarrs_chunk.proofs.BoxTuples.{joined_runs-push}
use Rattle.zarrs_chunk.proofs.Consecutive.{range-append}

pub AreApart-nil : AreApart []
AreApart-nil = λ k d h. absurd (omega arith)

-- the last run, if there is one, ends elsewhere
abbrev pub EndsElsewhere : List (ℕ × ℕ) → ℕ → Type 0
EndsElsewhere [] place = ⊤
EndsElsewhere (run ∷ []) place = run.0 + run.1 ≢ place
EndsElsewhere (run ∷ next ∷ runs) place = EndsElsewhere (next ∷ runs) place

pub EndsElsewhere-push : (runs : List (ℕ × ℕ)) (run : ℕ × ℕ) (place : ℕ) → run.0 + run.1 ≢ place → EndsElsewhere (runs ++ run ∷ []) place
EndsElsewhere-push [] run place h = h
EndsElsewhere-push (a ∷ []) run place h = h
EndsElsewhere-push (a ∷ b ∷ runs) run place h = EndsElsewhere-push (b ∷ runs) run place h

AreApart-tail : (run : ℕ × ℕ) (runs : List (ℕ × ℕ)) → AreApart (run ∷ runs) → AreApart runs
AreApart-tail run runs apart = λ k d h. let e : suc k + 1 ≡ suc (k + 1) = omega arith in rw e at (apart (suc k) d (omega arith))

AreApart-cons : (run next : ℕ × ℕ) (runs : List (ℕ × ℕ)) → run.0 + run.1 ≢ next.0 → AreApart (next ∷ runs) → AreApart (run ∷ next ∷ runs)
AreApart-cons run next runs first apart = λ k.
    elim k as (λ j. (d : ℕ × ℕ) → j + 1 < length (run ∷ next ∷ runs) → (get_or (run ∷ next ∷ runs) j d).0 + (get_or (run ∷ next ∷ runs) j d).1 ≢ (get_or (run ∷ next ∷ runs) (j + 1) d).0) [
      | zero ↦ (λ d h. first)
      | suc j ↦ (λ d h. let e : suc j + 1 ≡ suc (j + 1) = omega arith in rw e (apart j d (omega arith)))
    ]

pub AreApart-one : (run : ℕ × ℕ) → AreApart (run ∷ [])
AreApart-one run = λ k d h. absurd (omega arith)

-- a run more, which starts elsewhere than the last one ends
pub AreApart-push : (runs : List (ℕ × ℕ)) (run : ℕ × ℕ) → AreApart runs → EndsElsewhere runs run.0 → AreApart (runs ++ run ∷ [])
AreApart-push [] run apart ends = AreApart-one run
AreApart-push (a ∷ []) run apart ends = AreApart-cons a run [] ends (AreApart-one run)
AreApart-push (a ∷ b ∷ runs) run apart ends =
    AreApart-cons a b (runs ++ run ∷ []) (apart 0 a (omega arith)) (AreApart-push (b ∷ runs) run (AreApart-tail a (b ∷ runs) apart) ends)

-- the last run may end elsewhere
pub AreApart-grow : (runs : List (ℕ × ℕ)) (start len more : ℕ) → AreApart (runs ++ (start, len) ∷ []) → AreApart (runs ++ (start, more) ∷ [])
AreApart-grow [] start len more apart = AreApart-one (start, more)
AreApart-grow (a ∷ []) start len more apart = AreApart-cons a (start, more) [] (apart 0 a (omega arith)) (AreApart-one (start, more))
AreApart-grow (a ∷ b ∷ runs) start len more apart =
    AreApart-cons a b (runs ++ (start, more) ∷ []) (apart 0 a (omega arith)) (AreApart-grow (b ∷ runs) start len more (AreApart-tail a (b ∷ runs ++ (start, len) ∷ []) apart))

-- the last run behind those before it
last_behind : (runs : List (ℕ × ℕ)) (n : ℕ) (last : ℕ × ℕ) → n ≡ length runs → 0 < n → last ≡ get_or runs (n - 1) last → runs ≡ take (n - 1) runs ++ last ∷ []
last_behind runs n last e some there =
    sym (take_all n runs (omega arith))
    ∙ ap (λ m. take m runs) (let f : n ≡ n - 1 + 1 = omega arith in f)
    ∙ take_more runs (n - 1) last (omega arith)
    ∙ ap (λ run. take (n - 1) runs ++ run ∷ []) (sym there)

-- and another one in its place
last_set : (runs : List (ℕ × ℕ)) (n : ℕ) (last run : ℕ × ℕ) → n ≡ length runs → 0 < n → last ≡ get_or runs (n - 1) last → set runs (n - 1) run ≡ take (n - 1) runs ++ run ∷ []
last_set runs n last run e some there =
    let front = length-take (n - 1) runs in
    let at : n - 1 ≡ length (take (n - 1) runs) = omega (arith, front) in
    ap (λ rs. set rs (n - 1) run) (last_behind runs n last e some there)
    ∙ ap (λ m. set (take (n - 1) runs ++ last ∷ []) m run) at
    ∙ set-append_seam (take (n - 1) runs) last [] run

-- the last run grows by the number that follows it
pub joined_runs-grow : (runs : List (ℕ × ℕ)) (n start len place : ℕ) → n ≡ length runs → 0 < n → (start, len) ≡ get_or runs (n - 1) (start, len) → start + len ≡ place → joined_runs (set runs (n - 1) (start, len + 1)) ≡ joined_runs runs ++ place ∷ []
joined_runs-grow runs n start len place e some there ends =
    let front = take (n - 1) runs in
    ap joined_runs (last_set runs n (start, len) (start, len + 1) e some there)
    ∙ joined_runs-push front start (len + 1)
    ∙ ap (λ ns. joined_runs front ++ ns) (range-append start len 1 ∙ ap (λ p. range_with_len start len ++ p ∷ []) ends)
    ∙ sym (append_assoc (joined_runs front) (range_with_len start len) (place ∷ []))
    ∙ ap (λ ns. ns ++ place ∷ []) (sym (joined_runs-push front start len) ∙ ap joined_runs (sym (last_behind runs n (start, len) e some there)))

pub AreApart-set : (runs : List (ℕ × ℕ)) (n start len more : ℕ) → n ≡ length runs → 0 < n → (start, len) ≡ get_or runs (n - 1) (start, len) → AreApart runs → AreApart (set runs (n - 1) (start, more))
AreApart-set runs n start len more e some there apart =
    rw (last_set runs n (start, len) (start, more) e some there) (AreApart-grow (take (n - 1) runs) start len more (rw (← last_behind runs n (start, len) e some there) apart))

-- rows of an axis that they don't cover
row_apart : (size start len whole front next : ℕ) → 0 < len → len < size → 0 < whole → (front * size + start) * whole + len * whole ≢ (next * size + start) * whole
row_apart size start len whole front next some short rest = λ e.
    elim (cases_Bool (ltb front next)) [
      | inl less ↦ (
          let below : front + 1 ≤ next = (let h = ltb-true front next less in omega arith) in
          let rows = mul-le-mul_right size below in
          let ends : front * size + start + len + 1 ≤ next * size + start = omega arith in
          absurd (omega (arith, mul-le-mul_right whole ends)))
      | inr more ↦ (
          let above : next ≤ front = ltb-false front next more in
          let rows = mul-le-mul_right size above in
          let ends : next * size + start + 1 ≤ front * size + start + len = omega arith in
          absurd (omega (arith, mul-le-mul_right whole ends)))
    ]

-- the rows of all fronts
pub rows_apart : (size start len whole : ℕ) (fronts : List ℕ) → 0 < len → len < size → 0 < whole → AreApart (map (λ front. ((front * size + start) * whole, len * whole)) fronts)
rows_apart size start len whole [] some short rest = AreApart-nil
rows_apart size start len whole (front ∷ []) some short rest = AreApart-one ((front * size + start) * whole, len * whole)
rows_apart size start len whole (front ∷ next ∷ fronts) some short rest =
    AreApart-cons ((front * size + start) * whole, len * whole) ((next * size + start) * whole, len * whole) (map (λ front. ((front * size + start) * whole, len * whole)) fronts)
    (row_apart size start len whole front next some short rest)
    (rows_apart size start len whole (next ∷ fronts) some short rest)
