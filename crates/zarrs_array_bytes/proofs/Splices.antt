-- Writes at runs that rise: between the runs the old items stay, and in them stand the new ones.
use Rattle.std.proofs.Common.{◌≡◌, ℕ, ◌+◌, ◌-◌, ◌<◌, ◌≤◌, true, List, [], ◌∷◌, ◌++◌, length, map, map-id, drop, get_or, refl, sym, ap, ap₂, ◌∙◌, arith, leb-true, append_assoc, length-append, subst}
use Rattle.std.specs.List.{All, concat, flat_map, range_with_len}
use Rattle.std.proofs.lemmas.List.{drop_more, map-append}
use Rattle.std.proofs.lemmas.List.Concat.{concat_is}
use Rattle.std.proofs.lemmas.List.Elements.{All-tail}
use Rattle.std.proofs.lemmas.List.FromFn.{length-range_with_len, length-map-range_with_len}
use Rattle.zarrs_chunk.specs.Runs.{joined_runs}
use Rattle.zarrs_array_bytes.specs.Elements.{cut}
use Rattle.zarrs_array_bytes.specs.Pieces.{ends}
use Rattle.zarrs_array_bytes.specs.Update.{update, is_rising, with_parts, cuts, cuts_update}
use Rattle.zarrs_array_bytes.specs.SameBytesLaws.{both_true}
use Rattle.zarrs_array_bytes.proofs.WriteLemmas.{update-append, update-run}
use Rattle.zarrs_array_bytes.proofs.Stretches.{with_parts-append}
use Rattle.zarrs_chunk.proofs.Consecutive.{range-append}

-- the old items from a place on, with those in the runs behind it replaced by the next new ones
abbrev pub spliced : {A : Type 0} → (ℕ → A) → (ℕ → A) → ℕ → ℕ → ℕ → List (ℕ × ℕ) → List A
spliced old new count at done [] = map old (range_with_len at (count - at))
spliced old new count at done (run ∷ runs) =
    map old (range_with_len at (run.0 - at)) ++ (map new (range_with_len done run.1) ++ spliced old new count (run.0 + run.1) (done + run.1) runs)

map-range_two : {A : Type 0} (f : ℕ → A) (a b m n total : ℕ) → a + m ≡ b → m + n ≡ total → map f (range_with_len a total) ≡ map f (range_with_len a m) ++ map f (range_with_len b n)
map-range_two f a b m n total e g =
    ap (λ k. map f (range_with_len a k)) (sym g) ∙ ap (map f) (range-append a m n ∙ ap (λ k. range_with_len a m ++ range_with_len k n) e)
    ∙ map-append f (range_with_len a m) (range_with_len b n)

-- behind a front that is written already
update-spliced_behind : {A : Type 0} (f g : ℕ → A) (n m : ℕ) (front : List A) (at done : ℕ) (runs : List (ℕ × ℕ)) → length front ≡ at → is_rising at runs ≡ true → All (λ run. run.0 + run.1 ≤ n) runs → at ≤ n → done + length (joined_runs runs) ≡ m
    → update (front ++ map f (range_with_len at (n - at))) (joined_runs runs) (map g (range_with_len done (m - done))) ≡ front ++ spliced f g n at done runs
update-spliced_behind f g n m front at done [] e rising inside l count = refl
update-spliced_behind f g n m front at done (run ∷ runs) e rising inside l count =
    let behind : at ≤ run.0 = leb-true at run.0 (both_true _ _ rising).0 in
    let here : run.0 + run.1 ≤ n = inside 0 run (omega arith) in
    let to : ℕ = run.0 + run.1 in
    let places : List ℕ = range_with_len run.0 run.1 in
    let total : length (places ++ joined_runs runs) ≡ run.1 + length (joined_runs runs) = length-append places (joined_runs runs) ∙ ap (λ k. k + length (joined_runs runs)) (length-range_with_len run.0 run.1) in
    let gap = map f (range_with_len at (run.0 - at)) in
    let mid = map f (range_with_len run.0 run.1) in
    let back = map f (range_with_len to (n - to)) in
    let part = map g (range_with_len done run.1) in
    let rest = map g (range_with_len (done + run.1) (m - (done + run.1))) in
    let gap-len : length gap ≡ run.0 - at = length-map-range_with_len f at (run.0 - at) in
    let mid-len : length mid ≡ run.1 = length-map-range_with_len f run.0 run.1 in
    let part-len : length part ≡ run.1 = length-map-range_with_len g done run.1 in
    let olds : map f (range_with_len at (n - at)) ≡ gap ++ (mid ++ back) =
    map-range_two f at run.0 (run.0 - at) (n - run.0) (n - at) (omega arith) (omega arith)
    ∙ ap (λ xs. gap ++ xs) (map-range_two f run.0 to run.1 (n - to) (n - run.0) (omega arith) (omega arith)) in
    let news : map g (range_with_len done (m - done)) ≡ part ++ rest =
    map-range_two g done (done + run.1) run.1 (m - (done + run.1)) (m - done) (omega arith) (omega (arith, total, count)) in
    let all : front ++ map f (range_with_len at (n - at)) ≡ (front ++ gap) ++ (mid ++ back) = ap (λ xs. front ++ xs) olds ∙ sym (append_assoc front gap (mid ++ back)) in
    let wrote : update ((front ++ gap) ++ (mid ++ back)) (range_with_len run.0 (length part)) part ≡ (front ++ gap) ++ (part ++ back) =
    update-run (front ++ gap) mid back part run.0 (omega (arith, length-append front gap, gap-len, e)) (mid-len ∙ sym part-len) in
    let next : update (((front ++ gap) ++ part) ++ back) (joined_runs runs) rest ≡ ((front ++ gap) ++ part) ++ spliced f g n to (done + run.1) runs =
    update-spliced_behind f g n m ((front ++ gap) ++ part) to (done + run.1) runs
    (omega (arith, length-append (front ++ gap) part, length-append front gap, gap-len, part-len, e)) (both_true _ _ rising).1 (All-tail (λ (r : ℕ × ℕ). r.0 + r.1 ≤ n) run runs inside) here (omega (arith, total, count)) in
    ap₂ (λ xs ys. update xs (places ++ joined_runs runs) ys) all news
    ∙ update-append ((front ++ gap) ++ (mid ++ back)) places (joined_runs runs) part rest (length-range_with_len run.0 run.1 ∙ sym part-len)
    ∙ ap (λ k. update (update ((front ++ gap) ++ (mid ++ back)) (range_with_len run.0 k) part) (joined_runs runs) rest) (sym part-len)
    ∙ ap (λ xs. update xs (joined_runs runs) rest) (wrote ∙ sym (append_assoc (front ++ gap) part back))
    ∙ next
    ∙ append_assoc (front ++ gap) part (spliced f g n to (done + run.1) runs)
    ∙ append_assoc front gap (part ++ spliced f g n to (done + run.1) runs)

-- writes at runs that rise splice the new items into the old ones
pub update-spliced : {A : Type 0} (f g : ℕ → A) (n m : ℕ) (runs : List (ℕ × ℕ)) → is_rising 0 runs ≡ true → All (λ run. run.0 + run.1 ≤ n) runs → length (joined_runs runs) ≡ m
    → update (map f (range_with_len 0 n)) (joined_runs runs) (map g (range_with_len 0 m)) ≡ spliced f g n 0 0 runs
update-spliced f g n m runs rising inside count =
    let olds : n - 0 ≡ n = omega arith in
    let news : m - 0 ≡ m = omega arith in
    ap₂ (λ j k. update (map f (range_with_len 0 j)) (joined_runs runs) (map g (range_with_len 0 k))) (sym olds) (sym news)
    ∙ update-spliced_behind f g n m [] 0 0 runs refl rising inside (omega arith) (omega (arith, count))

-- one run more
pub spliced_more : {A : Type 0} (f g : ℕ → A) (n at done : ℕ) (runs : List (ℕ × ℕ)) (i : ℕ) → i < length runs
    → spliced f g n at done (drop i runs) ≡ map f (range_with_len at ((get_or runs i (0, 0)).0 - at)) ++ (map g (range_with_len done (get_or runs i (0, 0)).1)
    ++ spliced f g n ((get_or runs i (0, 0)).0 + (get_or runs i (0, 0)).1) (done + (get_or runs i (0, 0)).1) (drop (i + 1) runs))
spliced_more f g n at done runs i l = ap (spliced f g n at done) (drop_more runs i (0, 0) l)

pub rising_more : (at : ℕ) (runs : List (ℕ × ℕ)) (i : ℕ) → i < length runs → is_rising at (drop i runs) ≡ true
    → (at ≤ (get_or runs i (0, 0)).0) × (is_rising ((get_or runs i (0, 0)).0 + (get_or runs i (0, 0)).1) (drop (i + 1) runs) ≡ true)
rising_more at runs i l h =
    let all : is_rising at (get_or runs i (0, 0) ∷ drop (i + 1) runs) ≡ true = subst (λ rs. is_rising at rs ≡ true) (drop_more runs i (0, 0) l) h in
    (leb-true at (get_or runs i (0, 0)).0 (both_true _ _ all).0, (both_true _ _ all).1)

-- one run more: the old elements before it, and its new ones
pub spliced_step : (f g : ℕ → List ℕ) (n at done : ℕ) (runs : List (ℕ × ℕ)) (i : ℕ) (bytes offsets bytes1 offsets1 bytes2 offsets2 : List ℕ) → i < length runs
    → (bytes1, offsets1) ≡ with_parts (bytes, offsets) (map f (range_with_len at ((get_or runs i (0, 0)).0 - at)))
    → (bytes2, offsets2) ≡ with_parts (bytes1, offsets1) (map g (range_with_len done (get_or runs i (0, 0)).1))
    → with_parts (bytes2, offsets2) (spliced f g n ((get_or runs i (0, 0)).0 + (get_or runs i (0, 0)).1) (done + (get_or runs i (0, 0)).1) (drop (i + 1) runs)) ≡ with_parts (bytes, offsets) (spliced f g n at done (drop i runs))
spliced_step f g n at done runs i bytes offsets bytes1 offsets1 bytes2 offsets2 l first second =
    let run = get_or runs i (0, 0) in
    let gap : List (List ℕ) = map f (range_with_len at (run.0 - at)) in
    let part : List (List ℕ) = map g (range_with_len done run.1) in
    let rest : List (List ℕ) = spliced f g n (run.0 + run.1) (done + run.1) (drop (i + 1) runs) in
    ap (λ (p : List ℕ × List ℕ). with_parts p rest) (second ∙ ap (λ (p : List ℕ × List ℕ). with_parts p part) first)
    ∙ with_parts-append (bytes ++ concat gap) (offsets ++ ends (length bytes) gap) part rest
    ∙ with_parts-append bytes offsets gap (part ++ rest)
    ∙ ap (with_parts (bytes, offsets)) (sym (spliced_more f g n at done runs i l))

-- what is spliced is the update
pub cuts_update-spliced : (os old us new : List ℕ) (runs : List (ℕ × ℕ)) → length us ≡ length (joined_runs runs) + 1 → is_rising 0 runs ≡ true → All (λ run. run.0 + run.1 ≤ length os - 1) runs
    → cuts_update os old us new (joined_runs runs) ≡ with_parts ([], 0 ∷ []) (spliced (cut os old) (cut us new) (length os - 1) 0 0 runs)
cuts_update-spliced os old us new runs long rising inside =
    let n : ℕ = length os - 1 in
    let parts : List (List ℕ) = spliced (cut os old) (cut us new) n 0 0 runs in
    let are : update (cuts n os old) (joined_runs runs) (cuts (length us - 1) us new) ≡ parts =
    update-spliced (cut os old) (cut us new) n (length us - 1) runs rising inside (omega (arith, long)) in
    ap (λ (ps : List (List ℕ)). (flat_map (λ part. part) ps, 0 ∷ ends 0 (map (λ part. part) ps))) are
    ∙ ap₂ (λ xs ps. (xs, 0 ∷ ends 0 ps)) (sym (concat_is parts)) (map-id parts)
