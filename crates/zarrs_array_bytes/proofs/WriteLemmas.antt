-- Writing runs of bytes is an update of their pieces.
use Rattle.std.proofs.Common.{◌≡◌, ℕ, zero, suc, ◌+◌, ◌-◌, ◌*◌, ◌≤◌, List, [], ◌∷◌, ◌++◌, length, map, take, drop, set, refl, sym, ap, ap₂, ◌∙◌, arith, drop_at, drop-drop, append_assoc, length-append, length-take-le, length-drop}
use Rattle.std.specs.List.{All, concat, range_with_len}
use Rattle.std.proofs.Math.Seq.{set-append_seam}
use Rattle.std.proofs.Math.Nat.{mul-le-mul_right}
use Rattle.std.proofs.lemmas.List.{map-set, length-set}
use Rattle.std.proofs.lemmas.List.Elements.{All-tail}
use Rattle.std.proofs.lemmas.List.FromFn.{length-range_with_len}
use Rattle.zarrs_chunk.specs.Runs.{joined_runs}
use Rattle.zarrs_array_bytes.specs.Pieces.{pieces}
use Rattle.zarrs_array_bytes.specs.Update.{update, with_items_at, with_runs}
use Rattle.zarrs_array_bytes.proofs.Pieces.{length-pieces, pieces-suc, pieces-split, pieces-take, pieces-front, concat-pieces}

-- ---- updates

pub length-update : {A : Type 0} (xs : List A) (ps : List ℕ) (ys : List A) → length (update xs ps ys) ≡ length xs
length-update xs [] ys = refl
length-update xs (p ∷ ps) [] = refl
length-update xs (p ∷ ps) (y ∷ ys) = length-update (set xs p y) ps ys ∙ length-set xs p y

pub map-update : {A B : Type 0} (f : A → B) (xs : List A) (ps : List ℕ) (ys : List A) → map f (update xs ps ys) ≡ update (map f xs) ps (map f ys)
map-update f xs [] ys = refl
map-update f xs (p ∷ ps) [] = refl
map-update f xs (p ∷ ps) (y ∷ ys) = map-update f (set xs p y) ps ys ∙ ap (λ zs. update zs ps (map f ys)) (map-set f xs p y)

-- one list of writes behind another
pub update-append : {A : Type 0} (xs : List A) (ps qs : List ℕ) (ys zs : List A) → length ps ≡ length ys → update xs (ps ++ qs) (ys ++ zs) ≡ update (update xs ps ys) qs zs
update-append xs [] qs [] zs e = refl
update-append xs [] qs (y ∷ ys) zs e = absurd (omega arith)
update-append xs (p ∷ ps) qs [] zs e = absurd (omega arith)
update-append xs (p ∷ ps) qs (y ∷ ys) zs e = update-append (set xs p y) ps qs ys zs (omega arith)

-- writes at consecutive places replace a part
pub update-run : {A : Type 0} (front mid back new : List A) (at : ℕ) → length front ≡ at → length mid ≡ length new
    → update (front ++ (mid ++ back)) (range_with_len at (length new)) new ≡ front ++ (new ++ back)
update-run front [] back [] at e f = refl
update-run front (m ∷ mid) back [] at e f = absurd (omega arith)
update-run front [] back (n ∷ new) at e f = absurd (omega arith)
update-run front (m ∷ mid) back (n ∷ new) at e f =
    ap (λ k. update (set (front ++ (m ∷ (mid ++ back))) k n) (range_with_len (at + 1) (length new)) new) (sym e)
    ∙ ap (λ xs. update xs (range_with_len (at + 1) (length new)) new) (set-append_seam front m (mid ++ back) n ∙ sym (append_assoc front (n ∷ []) (mid ++ back)))
    ∙ update-run (front ++ n ∷ []) mid back new (at + 1) (omega (arith, length-append front (n ∷ []))) (omega arith)
    ∙ append_assoc front (n ∷ []) (new ++ back)

-- the pieces behind a run that is written
pieces-with_items_at : (size n start len : ℕ) (old new : List ℕ) → length old ≡ n * size → start + len ≤ n → length new ≡ len * size
    → pieces size n (with_items_at old (start * size) new) ≡ update (pieces size n old) (range_with_len start len) (pieces size len new)
pieces-with_items_at size n start len old new whole inside long =
    let rest : ℕ = n - start - len in
    let count : n ≡ start + (len + rest) = omega arith in
    let room : (start + len) * size ≤ n * size = mul-le-mul_right size inside in
    let spread : (start + len) * size ≡ start * size + len * size = omega arith in
    let at : ℕ = start * size in
    let behind : List ℕ = drop (at + len * size) old in
    let front : length (take at old) ≡ at = length-take-le at old (omega arith) in
    let olds : pieces size n old ≡ pieces size start (take at old) ++ (pieces size len (drop at old) ++ pieces size rest behind) =
    ap (λ k. pieces size k old) count ∙ pieces-split size start (len + rest) old
    ∙ ap₂ (λ a b. a ++ b) (sym (pieces-take size start old)) (pieces-split size len rest (drop at old) ∙ ap (λ ys. pieces size len (drop at old) ++ pieces size rest ys) (drop-drop (len * size) at old)) in
    let tail : drop (at + length new) old ≡ behind = ap (λ k. drop (at + k) old) long in
    let written : List ℕ = take at old ++ (new ++ behind) in
    let news : pieces size n written ≡ pieces size start (take at old) ++ (pieces size len new ++ pieces size rest behind) =
    ap (λ k. pieces size k written) count ∙ pieces-split size start (len + rest) written
    ∙ ap₂ (λ a b. a ++ b) (pieces-front size start (take at old) (new ++ behind) front)
    (ap (pieces size (len + rest)) (drop_at (take at old) (new ++ behind) at front) ∙ pieces-split size len rest (new ++ behind)
    ∙ ap₂ (λ a b. a ++ pieces size rest b) (pieces-front size len new behind long) (drop_at new behind (len * size) long)) in
    let lens : length (pieces size len new) ≡ len = length-pieces size len new in
    let run : update (pieces size start (take at old) ++ (pieces size len (drop at old) ++ pieces size rest behind)) (range_with_len start (length (pieces size len new))) (pieces size len new) ≡ pieces size start (take at old) ++ (pieces size len new ++ pieces size rest behind) =
    update-run (pieces size start (take at old)) (pieces size len (drop at old)) (pieces size rest behind) (pieces size len new) start (length-pieces size start (take at old)) (length-pieces size len (drop at old) ∙ sym lens) in
    ap (λ ys. pieces size n (take at old ++ (new ++ ys))) tail ∙ news ∙ sym run
    ∙ ap₂ (λ xs k. update xs (range_with_len start k) (pieces size len new)) (sym olds) lens

-- writing runs is an update of the pieces
pub with_runs-update : (size n : ℕ) (old : List ℕ) (runs : List (ℕ × ℕ)) (new : List ℕ) → length old ≡ n * size → All (λ run. run.0 + run.1 ≤ n) runs → length (joined_runs runs) * size ≤ length new
    → with_runs size old runs new ≡ concat (update (pieces size n old) (joined_runs runs) (pieces size (length (joined_runs runs)) new))
with_runs-update size n old [] new whole inside enough = sym (concat-pieces size n old whole)
with_runs-update size n old (run ∷ runs) new whole inside enough =
    let places : List ℕ = range_with_len run.0 run.1 in
    let m : ℕ = length (joined_runs runs) in
    let places-len : length places ≡ run.1 = length-range_with_len run.0 run.1 in
    let count : length (places ++ joined_runs runs) ≡ run.1 + m = length-append places (joined_runs runs) ∙ ap (λ k. k + m) places-len in
    let total : (run.1 + m) * size ≤ length new = rw count at enough in
    let spread : (run.1 + m) * size ≡ run.1 * size + m * size = omega arith in
    let part : List ℕ = take (run.1 * size) new in
    let rest : List ℕ = drop (run.1 * size) new in
    let part-len : length part ≡ run.1 * size = length-take-le (run.1 * size) new (omega arith) in
    let rest-len : m * size ≤ length rest = omega (arith, length-drop (run.1 * size) new) in
    let here : run.0 + run.1 ≤ n = inside 0 run (omega arith) in
    let room : (run.0 + run.1) * size ≤ n * size = mul-le-mul_right size here in
    let apart : (run.0 + run.1) * size ≡ run.0 * size + run.1 * size = omega arith in
    let wrote : List ℕ = with_items_at old (run.0 * size) part in
    let front-len : length (take (run.0 * size) old) ≡ run.0 * size = length-take-le (run.0 * size) old (omega arith) in
    let wrote-len : length wrote ≡ n * size =
    omega (arith, length-append (take (run.0 * size) old) (part ++ drop (run.0 * size + length part) old), length-append part (drop (run.0 * size + length part) old), length-drop (run.0 * size + length part) old, front-len, part-len) in
    let news : pieces size (run.1 + m) new ≡ pieces size run.1 part ++ pieces size m rest =
    pieces-split size run.1 m new ∙ ap (λ ps. ps ++ pieces size m rest) (sym (pieces-take size run.1 new)) in
    let lens : length places ≡ length (pieces size run.1 part) = places-len ∙ sym (length-pieces size run.1 part) in
    with_runs-update size n wrote runs rest wrote-len (All-tail (λ (r : ℕ × ℕ). r.0 + r.1 ≤ n) run runs inside) rest-len
    ∙ ap (λ ps. concat (update ps (joined_runs runs) (pieces size m rest))) (pieces-with_items_at size n run.0 run.1 old part whole here part-len)
    ∙ ap concat (sym (update-append (pieces size n old) places (joined_runs runs) (pieces size run.1 part) (pieces size m rest) lens))
    ∙ ap (λ ps. concat (update (pieces size n old) (places ++ joined_runs runs) ps)) (sym news)
    ∙ ap (λ k. concat (update (pieces size n old) (places ++ joined_runs runs) (pieces size k new))) (sym count)

-- ---- flags

concat-single : (xs : List ℕ) → concat (map (λ x. x ∷ []) xs) ≡ xs
concat-single [] = refl
concat-single (x ∷ xs) = ap (λ ys. x ∷ ys) (concat-single xs)

pieces-single : (xs : List ℕ) (n : ℕ) → length xs ≡ n → pieces 1 n xs ≡ map (λ x. x ∷ []) xs
pieces-single [] zero e = refl
pieces-single [] (suc n) e = absurd (omega arith)
pieces-single (x ∷ xs) zero e = absurd (omega arith)
pieces-single (x ∷ xs) (suc n) e = pieces-suc 1 n (x ∷ xs) ∙ ap (λ ps. (x ∷ []) ∷ ps) (pieces-single xs n (omega arith))

-- writing runs of flags is an update
pub flags_written-update : (n : ℕ) (old : List ℕ) (runs : List (ℕ × ℕ)) (new : List ℕ) → length old ≡ n → All (λ run. run.0 + run.1 ≤ n) runs → length new ≡ length (joined_runs runs)
    → with_runs 1 old runs new ≡ update old (joined_runs runs) new
flags_written-update n old runs new whole inside long =
    let places : List ℕ = joined_runs runs in
    with_runs-update 1 n old runs new (omega arith) inside (omega arith)
    ∙ ap₂ (λ xs ys. concat (update xs places ys)) (pieces-single old n whole) (pieces-single new (length places) long)
    ∙ ap concat (sym (map-update (λ x. x ∷ []) old places new)) ∙ concat-single (update old places new)
