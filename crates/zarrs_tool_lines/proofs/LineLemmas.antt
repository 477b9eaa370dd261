-- The first line, by std's words.
use Rattle.std.proofs.Common.{◌≡◌, ℕ, suc, ◌-◌, ◌<◌, Bool, true, false, cond, eqb, ltb, List, [], ◌∷◌, length, take, refl, ap, sym, ◌∙◌, arith, slice_index}
use Rattle.std.proofs.lemmas.Bool.{lt-ltb}
use Rattle.std.specs.Io.BufRead.{take_through, drop_through, strip_last}
use Rattle.zarrs_tool_lines.specs.Lines.{lines_of, onto_first}

cond-cons : (b : Bool) (x : ℕ) (s t : List ℕ) → cond b (x ∷ s) (x ∷ t) ≡ x ∷ cond b s t
cond-cons true x s t = refl
cond-cons false x s t = refl

strip-more : (x : ℕ) (zs : List ℕ) → 0 < length zs → strip_last 10 (x ∷ zs) ≡ x ∷ strip_last 10 zs
strip-more x [] some = absurd (omega (arith, some))
strip-more x (z ∷ ws) some =
    let e : suc (suc (length ws)) - 1 ≡ suc (length ws) = omega arith in
    let f : suc (length ws) - 1 ≡ length ws = omega arith in
    let p : ltb 0 (suc (suc (length ws))) ≡ true = lt-ltb _ _ (omega arith) in
    let q : ltb 0 (suc (length ws)) ≡ true = lt-ltb _ _ (omega arith) in
    rw (p, q, e, f) (cond-cons (eqb (slice_index (z ∷ ws) (length ws)) 10) x (take (length ws) (z ∷ ws)) (z ∷ ws))

strip-one : (x : ℕ) → strip_last 10 (x ∷ []) ≡ cond (eqb x 10) [] (x ∷ [])
strip-one x = refl

some-through : (b : Bool) (y : ℕ) (t : List ℕ) → 0 < length (cond b (y ∷ []) (y ∷ t))
some-through true y t = omega arith
some-through false y t = omega arith

abbrev Steps : List ℕ → Type 0
Steps xs = lines_of xs ≡ strip_last 10 (take_through 10 xs) ∷ lines_of (drop_through 10 xs)

-- no line end comes first
longer : (x : ℕ) (xs : List ℕ) → eqb x 10 ≡ false → (0 < length xs → Steps xs) → onto_first x (lines_of xs) ≡ strip_last 10 (x ∷ take_through 10 xs) ∷ lines_of (drop_through 10 xs)
longer x [] other step = ap (λ l. l ∷ []) (sym (strip-one x ∙ ap (λ b. cond b [] (x ∷ [])) other))
longer x (y ∷ ys) other step =
    ap (onto_first x) (step (omega arith))
    ∙ ap (λ l. l ∷ lines_of (drop_through 10 (y ∷ ys))) (sym (strip-more x (take_through 10 (y ∷ ys)) (some-through (eqb y 10) y (take_through 10 ys))))

by_first : (b : Bool) (x : ℕ) (xs : List ℕ) → eqb x 10 ≡ b → (0 < length xs → Steps xs) → cond b ([] ∷ lines_of xs) (onto_first x (lines_of xs)) ≡ strip_last 10 (cond b (x ∷ []) (x ∷ take_through 10 xs)) ∷ lines_of (cond b xs (drop_through 10 xs))
by_first true x xs is step = ap (λ l. l ∷ lines_of xs) (sym (strip-one x ∙ ap (λ b. cond b [] (x ∷ [])) is))
by_first false x xs is step = longer x xs is step

-- the first line is what stands through the first line end, without it, and the others come after
pub lines-step : (xs : List ℕ) → 0 < length xs → Steps xs
lines-step [] some = absurd (omega (arith, some))
lines-step (x ∷ xs) some = by_first (eqb x 10) x xs refl (lines-step xs)
