-- Runs that are filled and apart are the runs of their places, each as long as it can be.
use Rattle.std.proofs.Common.{◌≡◌, ◌≢◌, ℕ, zero, suc, ◌+◌, ◌<◌, ◌≤◌, ◌==◌, Bool, true, false, if◌then◌else◌, List, [], ◌∷◌, ◌++◌, length, arith, refl, ap, sym, ◌∙◌}
use Rattle.std.specs.List.{range_with_len}
use Rattle.std.proofs.lemmas.Bool.Decides.{nat_tests}
use Rattle.std.proofs.lemmas.List.Elements.{All-tail}
use Rattle.zarrs_chunk.specs.Runs.{joined_runs, AreApart, AreFilled}
use Rattle.zarrs_bytes.specs.ReadingCalls.{consecutive_runs, with_place_before}

-- the runs behind a place don't begin with the next one
abbrev BeginsElsewhere : ℕ → List (ℕ × ℕ) → Type 0
BeginsElsewhere end [] = Unit {0}
BeginsElsewhere end (run ∷ runs) = end ≢ run.0

begins_elsewhere : (run : ℕ × ℕ) (runs : List (ℕ × ℕ)) → AreApart (run ∷ runs) → BeginsElsewhere (run.0 + run.1) runs
begins_elsewhere run [] apart = tt
begins_elsewhere run (next ∷ runs) apart = apart 0 run (omega arith)

pub tested : (a b : ℕ) (xs ys : List (ℕ × ℕ)) → a ≡ b → (if a == b then xs else ys) ≡ xs
tested a b xs ys e = let t : (a == b) ≡ true = grind (arith, nat_tests) in rw t refl

pub untested : (a b : ℕ) (xs ys : List (ℕ × ℕ)) → b ≢ a → (if a == b then xs else ys) ≡ ys
untested a b xs ys n = let t : (a == b) ≡ false = grind (arith, nat_tests) in rw t refl

-- one run
pub one_run : (start len : ℕ) (runs : List (ℕ × ℕ)) → 0 < len → BeginsElsewhere (start + len) runs → consecutive_runs (joined_runs runs) ≡ runs → consecutive_runs (range_with_len start len ++ joined_runs runs) ≡ (start, len) ∷ runs
one_run start zero runs some ends rest = absurd (omega arith)
one_run start (suc zero) [] some ends rest = refl
one_run start (suc zero) (next ∷ runs) some ends rest =
    ap (with_place_before start) rest ∙ untested next.0 (start + 1) _ _ ends
one_run start (suc (suc len)) runs some ends rest =
    let more : start + 1 + suc len ≡ start + suc (suc len) = omega arith in
    ap (with_place_before start) (one_run (start + 1) (suc len) runs (omega arith) (rw more ends) rest)
    ∙ tested (start + 1) (start + 1) _ _ refl

pub runs_are_consecutive : (runs : List (ℕ × ℕ)) → AreFilled runs → AreApart runs → consecutive_runs (joined_runs runs) ≡ runs
runs_are_consecutive [] filled apart = refl
runs_are_consecutive (run ∷ runs) filled apart =
    let behind : AreApart runs = λ k d h. let next : suc k + 1 ≡ suc (k + 1) = omega arith in rw next at (apart (suc k) d (omega arith)) in
    one_run run.0 run.1 runs (filled 0 run (omega arith)) (begins_elsewhere run runs apart)
    (runs_are_consecutive runs (All-tail (λ (r : ℕ × ℕ). 0 < r.1) run runs filled) behind)

-- so of runs of these places
pub runs_of_places : (places : List ℕ) (runs : List (ℕ × ℕ)) → AreFilled runs → AreApart runs → joined_runs runs ≡ places → runs ≡ consecutive_runs places
runs_of_places places runs filled apart joined = sym (runs_are_consecutive runs filled apart) ∙ ap consecutive_runs joined

-- ---- no more runs than places

short : (test : Bool) (xs ys : List (ℕ × ℕ)) (n : ℕ) → length xs ≤ n → length ys ≤ n → length (if test then xs else ys) ≤ n
short true xs ys n a b = a
short false xs ys n a b = b

one_more : (place : ℕ) (runs : List (ℕ × ℕ)) → length (with_place_before place runs) ≤ suc (length runs)
one_more place [] = omega arith
one_more place (run ∷ runs) = short (run.0 == place + 1) ((place, suc run.1) ∷ runs) ((place, 1) ∷ run ∷ runs) (suc (suc (length runs))) (omega arith) (omega arith)

pub runs_within : (places : List ℕ) → length (consecutive_runs places) ≤ length places
runs_within [] = omega arith
runs_within (place ∷ places) =
    let rest = runs_within places in
    let more = one_more place (consecutive_runs places) in
    omega (arith, rest, more)
