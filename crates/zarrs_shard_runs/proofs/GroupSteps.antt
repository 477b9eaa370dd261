-- Cut runs of one inner chunk, and groups of them.
use Rattle.std.proofs.Common.{◌≡◌, ℕ, ◌+◌, ◌-◌, ◌<◌, ◌≤◌, ◌≢◌, ◌++◌, List, [], ◌∷◌, length, take, drop, get_or, arith, refl, ap, sym, subst, ◌∙◌}
use Rattle.std.specs.List.{All, flat_map}
use Rattle.std.specs.List.Sorted.{IsNonDecreasingBy}
use Rattle.std.proofs.lemmas.List.{append-nil, drop-take, get_or-drop, get_or-take, get_or_default, length-append, length-drop, length-take-le, map-append, take-append-drop, take-take}
use Rattle.std.proofs.lemmas.List.Concat.{flat_map-append}
use Rattle.std.proofs.lemmas.List.Elements.{All-head, All-push, All-tail}
use Rattle.std.proofs.lemmas.List.FromFn.{length-range_with_len}
use Rattle.zarrs_shard_runs.specs.CutRuns.{cells, cells_at, places_of_cut}
use Rattle.zarrs_shard_runs.specs.Groups.{AreRising, cells_of_groups}
use Rattle.zarrs_shard_runs.specs.declared.cut_runs.CutRun.{CutRun}

-- the first cut runs of a list are of one inner chunk
abbrev pub AreOf : ℕ → List CutRun → Type 0
AreOf number cuts = All (λ it. it.number ≡ number) cuts

-- all places of cut runs of one inner chunk
pub cells_of_one : (number : ℕ) (cuts : List CutRun) → AreOf number cuts → cells cuts ≡ cells_at number (flat_map places_of_cut cuts)
cells_of_one number [] h = refl
cells_of_one number (it ∷ cuts) h =
    let first = All-head (λ (it : CutRun). it.number ≡ number) it cuts h in
    let rest = cells_of_one number cuts (All-tail (λ (it : CutRun). it.number ≡ number) it cuts h) in
    (λ i. cells_at (first i) (places_of_cut it) ++ rest i) ∙ sym (map-append (λ place. (number, place)) (places_of_cut it) (flat_map places_of_cut cuts))

-- a group more, of a number above all others
pub rising-push : (low number : ℕ) (groups : List (ℕ × List ℕ)) (places : List ℕ) → AreRising low groups → low ≤ number → All (λ it. it.0 < number) groups → 0 < length places → AreRising low (groups ++ (number, places) ∷ [])
rising-push low number [] places r l below some = (l, some, tt)
rising-push low number (it ∷ groups) places r l below some =
    let first = All-head (λ (it : ℕ × List ℕ). it.0 < number) it groups below in
    (r.0, r.1, rising-push (it.0 + 1) number groups places r.2 (omega (arith, first)) (All-tail (λ (it : ℕ × List ℕ). it.0 < number) it groups below) some)

pub groups-push : (groups : List (ℕ × List ℕ)) (number : ℕ) (places : List ℕ) → cells_of_groups (groups ++ (number, places) ∷ []) ≡ cells_of_groups groups ++ cells_at number places
groups-push groups number places =
    flat_map-append (λ (it : ℕ × List ℕ). cells_at it.0 it.1) groups ((number, places) ∷ []) ∙ ap (λ xs. cells_of_groups groups ++ xs) (append-nil (cells_at number places))

-- the places of the first cut runs, and of so many more
pub cells_split : (cuts : List CutRun) (at count : ℕ) → at + count ≤ length cuts → cells (take (at + count) cuts) ≡ cells (take at cuts) ++ cells (take count (drop at cuts))
cells_split cuts at count l = ap cells (take_split cuts at count) ∙ flat_map-append (λ (it : CutRun). cells_at it.number (places_of_cut it)) (take at cuts) (take count (drop at cuts))
  where
    take_split : {X : Type 0} (xs : List X) (m n : ℕ) → take (m + n) xs ≡ take m xs ++ take n (drop m xs)
    take_split xs m n = sym (take-append-drop m (take (m + n) xs)) ∙ (λ i. take-take m (m + n) xs (omega arith) i ++ drop-take m n xs i)

some_places : (cuts : List CutRun) → 0 < length cuts → All (λ it. 0 < it.len) cuts → 0 < length (flat_map places_of_cut cuts)
some_places [] l f = absurd (omega (arith, l))
some_places (it ∷ cuts) l f =
    let first = All-head (λ (it : CutRun). 0 < it.len) it cuts f in
    let long = length-append (places_of_cut it) (flat_map places_of_cut cuts) in
    let own = length-range_with_len it.start it.len in
    omega (arith, first, long, own)

-- the groups of the first cut runs: their numbers are below that of each later one
pub record AreGroupedTo (cuts : List CutRun) (at : ℕ) (groups : List (ℕ × List ℕ)) : Type 0 where
  pub within : at ≤ length cuts
  pub rising : AreRising 0 groups
  pub numbers : (limit : ℕ) → All (λ it. it.number < limit) cuts → All (λ it. it.0 < limit) groups
  pub below : (k : ℕ) (d : CutRun) → at ≤ k → k < length cuts → All (λ it. it.0 < (get_or cuts k d).number) groups
  pub cells : cells_of_groups groups ≡ cells (take at cuts)

pub grouped_more : (cuts : List CutRun) (at count number : ℕ) (groups : List (ℕ × List ℕ)) (places : List ℕ) → IsNonDecreasingBy (λ (it : CutRun). it.number) cuts → All (λ it. 0 < it.len) cuts → AreGroupedTo cuts at groups
    → 0 < count → at + count ≤ length cuts → ((d : CutRun) → number ≡ (get_or cuts at d).number)
    → ((k : ℕ) (d : CutRun) → k < count → (get_or cuts (at + k) d).number ≡ number)
    → ((d : CutRun) → at + count < length cuts → (get_or cuts (at + count) d).number ≢ number)
    → places ≡ flat_map places_of_cut (take count (drop at cuts))
    → AreGroupedTo cuts (at + count) (groups ++ (number, places) ∷ [])
grouped_more cuts at count number groups places sorted filled g some room first same next e =
    let part = take count (drop at cuts) in
    let long : length part ≡ count = length-take-le count (drop at cuts) (let n = length-drop at cuts in omega (arith, n, room)) in
    let of : AreOf number part = λ k d l.
    let m : k < count = omega (arith, l, long) in
    ap (λ (x : CutRun). x.number) (get_or-take count (drop at cuts) k d m ∙ get_or-drop at cuts k d) ∙ same k d m in
    let part_filled : All (λ it. 0 < it.len) part = λ k d l.
    let m : k < count = omega (arith, l, long) in
    subst (λ (x : CutRun). 0 < x.len) (sym (get_or-take count (drop at cuts) k d m ∙ get_or-drop at cuts k d)) (filled (at + k) d (omega (arith, m, room))) in
    let places_some : 0 < length places = subst (λ (ps : List ℕ). 0 < length ps) (sym e) (some_places part (omega (arith, long, some)) part_filled) in
    record {
      within = room;
      rising = rising-push 0 number groups places g.rising (omega arith)
          (λ k d l. first_below k d l)
          places_some;
      numbers = λ limit h.
          let low : number < limit = lowest limit h in
          All-push (λ (it : ℕ × List ℕ). it.0 < limit) groups (number, places) (g.numbers limit h) low;
      below = λ k d l m.
          let up : number < (get_or cuts k d).number = beyond k d l m in
          All-push (λ (it : ℕ × List ℕ). it.0 < (get_or cuts k d).number) groups (number, places) (g.below k d (omega (arith, l)) m) up;
      cells = groups-push groups number places
          ∙ (λ i. g.cells i ++ (ap (cells_at number) e ∙ sym (cells_of_one number part of)) i)
          ∙ sym (cells_split cuts at count room);
    }
  where
    lowest : (limit : ℕ) → All (λ (it : CutRun). it.number < limit) cuts → number < limit
    lowest limit h =
        let d : CutRun = record { number = 0; start = 0; len = 0; index = 0 } in
        let b = h at d (omega (arith, some, room)) in
        let f = first d in
        omega (arith, b, f)

    first_below : All (λ (it : ℕ × List ℕ). it.0 < number) groups
    first_below k d l =
        let e : CutRun = record { number = 0; start = 0; len = 0; index = 0 } in
        let h = g.below at e (omega arith) (omega (arith, some, room)) k d l in
        let f = first e in
        omega (arith, h, f)

    beyond : (k : ℕ) (d : CutRun) → at + count ≤ k → k < length cuts → number < (get_or cuts k d).number
    beyond k d l m =
        let low = sorted at k d (omega (arith, l)) m in
        let mid = sorted at (at + count) d (omega arith) (omega (arith, l, m)) in
        let high = sorted (at + count) k d l m in
        let other = next d (omega (arith, l, m)) in
        let f = first d in
        omega (arith, mid, high, other, f)

-- the same, as the loop over slices has it
pub grouped_next : (cuts rest part : List CutRun) (at count : ℕ) (e : CutRun) (groups : List (ℕ × List ℕ)) (places : List ℕ) → IsNonDecreasingBy (λ (it : CutRun). it.number) cuts → All (λ it. 0 < it.len) cuts → AreGroupedTo cuts at groups
    → at < length cuts → rest ≡ drop at cuts → part ≡ take count (drop at cuts) → 0 < count → count ≤ length rest
    → ((k : ℕ) (d : CutRun) → k < count → (get_or rest k d).number ≡ (get_or rest 0 d).number)
    → ((d : CutRun) → count < length rest → (get_or rest count d).number ≢ (get_or rest 0 d).number)
    → places ≡ flat_map places_of_cut part
    → AreGroupedTo cuts (at + count) (groups ++ ((get_or cuts at e).number, places) ∷ [])
grouped_next cuts rest part at count e groups places sorted filled g here r p some room same longest is =
    let long : length rest ≡ length cuts - at = ap length r ∙ length-drop at cuts in
    grouped_more cuts at count (get_or cuts at e).number groups places sorted filled g some (omega (arith, room, long, here))
    (λ d. ap (λ (x : CutRun). x.number) (get_or_default cuts at e d here))
    (λ k d l. sym (read k d) ∙ same k d l ∙ read 0 d ∙ ap (λ (x : CutRun). x.number) (ap (λ j. get_or cuts j d) (let z : at + 0 ≡ at = omega arith in z) ∙ get_or_default cuts at d e here))
    (λ d l h. longest d (omega (arith, l, long)) (read count d ∙ h ∙ ap (λ (x : CutRun). x.number) (get_or_default cuts at e d here ∙ ap (λ j. get_or cuts j d) (let z : at ≡ at + 0 = omega arith in z)) ∙ sym (read 0 d)))
    (is ∙ ap (flat_map places_of_cut) p)
  where
    read : (k : ℕ) (d : CutRun) → (get_or rest k d).number ≡ (get_or cuts (at + k) d).number
    read k d = ap (λ (xs : List CutRun). (get_or xs k d).number) r ∙ ap (λ (x : CutRun). x.number) (get_or-drop at cuts k d)
