-- Runs that grow, and spans of cut runs.
use Rattle.std.proofs.Common.{◌≡◌, ℕ, ◌+◌, ◌-◌, ◌<◌, ◌≤◌, ◌++◌, List, [], ◌∷◌, length, set, take, drop, get_or, arith, refl, ap, sym, subst, ◌∙◌, ⊎_elim}
use Rattle.std.specs.List.{range_with_len}
use Rattle.std.proofs.lemmas.Bool.{cases_eq}
use Rattle.std.proofs.lemmas.List.{append_assoc, drop_at, get_or-set_other, get_or-set_same, length-append, length-map, length-take, set_at, take-append-drop, take_all, take_at, take_more}
use Rattle.std.proofs.lemmas.List.Concat.{flat_map-append}
use Rattle.std.proofs.lemmas.List.FromFn.{length-range_with_len}
use Rattle.zarrs_chunk.proofs.BoxTuples.{flat_map-take_more, joined_runs-push}
use Rattle.zarrs_chunk.proofs.Consecutive.{range-append}
use Rattle.zarrs_chunk.specs.Runs.{joined_runs}
use Rattle.zarrs_shard_runs.specs.CutRuns.{cells, cells_at, places_of_cut}
use Rattle.zarrs_shard_runs.specs.Groups.{AreIndexed, IsSpanOf}
use Rattle.zarrs_shard_runs.specs.declared.cut_runs.CutRun.{CutRun}

-- the last run grows by a run that begins at its end
pub joined_runs-lengthen : (runs : List (ℕ × ℕ)) (n start before place len : ℕ) → n ≡ length runs → 0 < n → (start, before) ≡ get_or runs (n - 1) (start, before) → start + before ≡ place
    → joined_runs (set runs (n - 1) (start, before + len)) ≡ joined_runs runs ++ range_with_len place len
joined_runs-lengthen runs n start before place len e some there ends =
    let front = take (n - 1) runs in
    let long : length front ≡ n - 1 = let t = length-take (n - 1) runs in omega (arith, t, e) in
    let split : runs ≡ front ++ (start, before) ∷ [] =
    sym (take_all n runs (omega (arith, e)))
    ∙ ap (λ m. take m runs) (let f : n ≡ n - 1 + 1 = omega (arith, some) in f)
    ∙ take_more runs (n - 1) (start, before) (omega (arith, e, some))
    ∙ ap (λ (run : ℕ × ℕ). front ++ run ∷ []) (sym there) in
    ap (λ (rs : List (ℕ × ℕ)). joined_runs (set rs (n - 1) (start, before + len))) split
    ∙ ap joined_runs (set_at front (start, before) [] (start, before + len) (n - 1) long)
    ∙ joined_runs-push front start (before + len)
    ∙ ap (λ ns. joined_runs front ++ ns) (range-append start before len ∙ ap (λ p. range_with_len start before ++ range_with_len p len) ends)
    ∙ sym (append_assoc (joined_runs front) (range_with_len start before) (range_with_len place len))
    ∙ ap (λ ns. ns ++ range_with_len place len) (sym (joined_runs-push front start before) ∙ ap joined_runs (sym split))

-- ---- spans

pub cells-take_more : (cuts : List CutRun) (k : ℕ) (d : CutRun) → k < length cuts → cells (take (k + 1) cuts) ≡ cells (take k cuts) ++ cells_at (get_or cuts k d).number (places_of_cut (get_or cuts k d))
cells-take_more cuts k d l = flat_map-take_more (λ (it : CutRun). cells_at it.number (places_of_cut it)) cuts k d l

pub length-cells_at : (it : CutRun) → length (cells_at it.number (places_of_cut it)) ≡ it.len
length-cells_at it = length-map (places_of_cut it) (λ place. (it.number, place)) ∙ length-range_with_len it.start it.len

-- how many places the first cut runs have
pub cells_counted : (cuts : List CutRun) (k : ℕ) (d : CutRun) → k < length cuts → length (cells (take (k + 1) cuts)) ≡ length (cells (take k cuts)) + (get_or cuts k d).len
cells_counted cuts k d l =
    let it = get_or cuts k d in
    ap length (cells-take_more cuts k d l) ∙ length-append (cells (take k cuts)) (cells_at it.number (places_of_cut it)) ∙ ap (λ n. length (cells (take k cuts)) + n) (length-cells_at it)

-- all of the places, before and behind those of one cut run
record IsAmid (cuts : List CutRun) (k : ℕ) (it : CutRun) : Type 0 where
  pub behind : List (ℕ × ℕ)
  pub is : cells cuts ≡ cells (take k cuts) ++ (cells_at it.number (places_of_cut it) ++ behind)

is_amid : (cuts : List CutRun) (k : ℕ) (d : CutRun) → k < length cuts → IsAmid cuts k (get_or cuts k d)
is_amid cuts k d l =
    let it = get_or cuts k d in
    record {
      behind = cells (drop (k + 1) cuts);
      is = ap cells (sym (take-append-drop (k + 1) cuts))
          ∙ flat_map-append (λ (it : CutRun). cells_at it.number (places_of_cut it)) (take (k + 1) cuts) (drop (k + 1) cuts)
          ∙ ap (λ xs. xs ++ cells (drop (k + 1) cuts)) (cells-take_more cuts k d l)
          ∙ append_assoc (cells (take k cuts)) (cells_at it.number (places_of_cut it)) (cells (drop (k + 1) cuts));
    }

pub cells_within : (cuts : List CutRun) (k : ℕ) (d : CutRun) → k < length cuts → length (cells (take k cuts)) + (get_or cuts k d).len ≤ length (cells cuts)
cells_within cuts k d l =
    let it = get_or cuts k d in
    let amid = is_amid cuts k d l in
    let a = ap length amid.is in
    let b = length-append (cells (take k cuts)) (cells_at it.number (places_of_cut it) ++ amid.behind) in
    let c = length-append (cells_at it.number (places_of_cut it)) amid.behind in
    let e = length-cells_at it in
    omega (arith, a, b, c, e)

-- where a cut run's places stand
pub span_is : (cuts : List CutRun) (k at : ℕ) (d : CutRun) → k < length cuts → at ≡ length (cells (take k cuts)) → IsSpanOf (cells cuts) (at, (get_or cuts k d).len) (get_or cuts k d)
span_is cuts k at d l e =
    let it = get_or cuts k d in
    let amid = is_amid cuts k d l in
    let own = cells_at it.number (places_of_cut it) in
    let front = cells (take k cuts) in
    (refl, ap (λ (xs : List (ℕ × ℕ)). take it.len (drop at xs)) amid.is ∙ ap (take it.len) (drop_at front (own ++ amid.behind) at (sym e)) ∙ take_at own amid.behind it.len (length-cells_at it))

-- the spans of the first cut runs stand at their indices
abbrev pub AreSpansBelow : List CutRun → List (ℕ × ℕ) → ℕ → Type 0
AreSpansBelow cuts spans n = (k : ℕ) (d : CutRun) (e : ℕ × ℕ) → k < n → IsSpanOf (cells cuts) (get_or spans (get_or cuts k d).index e) (get_or cuts k d)

pub spans_more : (cuts : List CutRun) (spans : List (ℕ × ℕ)) (n at : ℕ) (it : CutRun) → AreIndexed cuts → length spans ≡ length cuts → n < length cuts → ((d : CutRun) → it ≡ get_or cuts n d) → at ≡ length (cells (take n cuts))
    → AreSpansBelow cuts spans n → AreSpansBelow cuts (set spans it.index (at, it.len)) (n + 1)
spans_more cuts spans n at it indexed long l is e below = λ k d f m.
    let mine = get_or cuts k d in
    let room : it.index < length spans = let b = indexed.below n d l in let s = ap (λ (x : CutRun). x.index) (is d) in omega (arith, long, b, s) in
    let here : k < length cuts = omega (arith, m, l) in
    ⊎_elim
    (λ (same : mine.index ≡ it.index).
    let equal : it ≡ mine = is d ∙ indexed.same n k d l here (ap (λ (x : CutRun). x.index) (sym (is d)) ∙ sym same) in
    let read : get_or (set spans it.index (at, it.len)) mine.index f ≡ (at, it.len) = ap (λ j. get_or (set spans it.index (at, it.len)) j f) same ∙ get_or-set_same spans it.index (at, it.len) f room in
    let span : IsSpanOf (cells cuts) (at, it.len) it = subst (λ (x : CutRun). IsSpanOf (cells cuts) (at, x.len) x) (sym (is d)) (span_is cuts n at d l e) in
    subst (λ (s : ℕ × ℕ). IsSpanOf (cells cuts) s mine) (sym read) (subst (λ (x : CutRun). IsSpanOf (cells cuts) (at, it.len) x) equal span))
    (λ (other : mine.index ≡ it.index → ⊥).
    let before : k < n = before_last k n (omega (arith, m)) (λ (j : k ≡ n). other (ap (λ (i : ℕ). (get_or cuts i d).index) j ∙ ap (λ (x : CutRun). x.index) (sym (is d)))) in
    let read : get_or (set spans it.index (at, it.len)) mine.index f ≡ get_or spans mine.index f = get_or-set_other spans it.index mine.index (at, it.len) f other in
    subst (λ (s : ℕ × ℕ). IsSpanOf (cells cuts) s mine) (sym read) (below k d f before))
    (cases_eq mine.index it.index)
  where
    before_last : (k n : ℕ) → k ≤ n → (k ≡ n → ⊥) → k < n
    before_last k n l h = omega (arith, l, h)
