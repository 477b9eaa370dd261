-- Which tuples a box has.
use Rattle.std.proofs.Common.{◌≡◌, ◌↔◌, ◌∙◌, ℕ, true, zero, suc, ◌+◌, ◌-◌, ◌<◌, ◌≤◌, inl, inr, List, [], ◌∷◌, length, get_or, map, arith, refl, ap, sym}
use Rattle.std.specs.List.{Contains, flat_map, range_with_len}
use Rattle.std.proofs.lemmas.List.Elements.{Contains-append_left, Contains-append_right, Contains-append_cases}
use Rattle.zarrs_chunk.specs.InsideByAxis.{IsInBox, IsBoxInShape}
use Rattle.zarrs_chunk.specs.Tuples.{box_tuples, is_box_inside, is_tuple_inside}
use Rattle.zarrs_chunk.proofs.Inside.{is_box_inside-all, is_box_inside-at, is_box_inside-lengths, is_tuple_inside-all}

Contains-behind : {X : Type 0} (x : X) (xs : List X) (y : X) → Contains xs y → Contains (x ∷ xs) y
Contains-behind x xs y c = (suc c.0, omega arith, c.2)

-- ---- the tuples that begin with one index

from_row : (index first : ℕ) (tuples : List (List ℕ)) (rest : List ℕ) (k : ℕ) → k < length (map (λ tuple. index ∷ tuple) tuples) → get_or (map (λ tuple. index ∷ tuple) tuples) k (first ∷ rest) ≡ first ∷ rest → (first ≡ index) × Contains tuples rest
from_row index first [] rest k l e = absurd (omega arith)
from_row index first (tuple ∷ tuples) rest zero l e = (cc, (0, omega arith, cc))
from_row index first (tuple ∷ tuples) rest (suc k) l e =
    let r = from_row index first tuples rest k (omega arith) e in
    (r.0, Contains-behind tuple tuples rest r.1)

not_empty : (index : ℕ) (tuples : List (List ℕ)) (k : ℕ) → k < length (map (λ tuple. index ∷ tuple) tuples) → get_or (map (λ tuple. index ∷ tuple) tuples) k [] ≡ [] → ⊥
not_empty index [] k l e = omega arith
not_empty index (tuple ∷ tuples) zero l e = cc
not_empty index (tuple ∷ tuples) (suc k) l e = not_empty index tuples k (omega arith) e

into_row : (index : ℕ) (tuples : List (List ℕ)) (rest : List ℕ) (k : ℕ) → k < length tuples → get_or tuples k rest ≡ rest → Contains (map (λ tuple. index ∷ tuple) tuples) (index ∷ rest)
into_row index [] rest k l e = absurd (omega arith)
into_row index (tuple ∷ tuples) rest zero l e = (0, omega arith, ap (λ t. index ∷ t) e)
into_row index (tuple ∷ tuples) rest (suc k) l e =
    Contains-behind (index ∷ tuple) (map (λ tuple. index ∷ tuple) tuples) (index ∷ rest) (into_row index tuples rest k (omega arith) e)

-- ---- the tuples that begin with an index of a range

abbrev rows : ℕ → ℕ → List (List ℕ) → List (List ℕ)
rows start len tuples = flat_map (λ index. map (λ tuple. index ∷ tuple) tuples) (range_with_len start len)

from_rows : (len start first : ℕ) (tuples : List (List ℕ)) (rest : List ℕ) → Contains (rows start len tuples) (first ∷ rest) → (start ≤ first) × (first < start + len) × Contains tuples rest
from_rows zero start first tuples rest c = absurd (omega arith)
from_rows (suc len) start first tuples rest c =
    elim (Contains-append_cases (map (λ tuple. start ∷ tuple) tuples) (rows (start + 1) len tuples) (first ∷ rest) c) [
      | inl d ↦ (let r = from_row start first tuples rest d.0 d.1 d.2 in (omega (arith, r.0), omega (arith, r.0), r.1))
      | inr d ↦ (let r = from_rows len (start + 1) first tuples rest d in (omega (arith, r.0), omega (arith, r.1), r.2))
    ]

no_empty : (len start : ℕ) (tuples : List (List ℕ)) → Contains (rows start len tuples) [] → ⊥
no_empty zero start tuples c = omega arith
no_empty (suc len) start tuples c =
    elim (Contains-append_cases (map (λ tuple. start ∷ tuple) tuples) (rows (start + 1) len tuples) [] c) [
      | inl d ↦ not_empty start tuples d.0 d.1 d.2
      | inr d ↦ no_empty len (start + 1) tuples d
    ]

into_rows : (len start offset : ℕ) (tuples : List (List ℕ)) (rest : List ℕ) → offset < len → Contains tuples rest → Contains (rows start len tuples) ((start + offset) ∷ rest)
into_rows zero start offset tuples rest l c = absurd (omega arith)
into_rows (suc len) start zero tuples rest l c =
    let e : start + 0 ≡ start = omega arith in
    rw e (Contains-append_left (map (λ tuple. start ∷ tuple) tuples) (rows (start + 1) len tuples) (start ∷ rest) (into_row start tuples rest c.0 c.1 c.2))
into_rows (suc len) start (suc offset) tuples rest l c =
    let e : start + suc offset ≡ start + 1 + offset = omega arith in
    rw e (Contains-append_right (map (λ tuple. start ∷ tuple) tuples) (rows (start + 1) len tuples) ((start + 1 + offset) ∷ rest) (into_rows len (start + 1) offset tuples rest (omega arith) c))

-- ---- boxes

IsInBox-first : (start len first : ℕ) (starts lengths rest : List ℕ) → start ≤ first → first < start + len → IsInBox starts lengths rest → IsInBox (start ∷ starts) (len ∷ lengths) (first ∷ rest)
IsInBox-first start len first starts lengths rest p q r = record {
  axes = omega (arith, r.axes);
  from_start = λ axis. elim axis as (λ k. k < length (start ∷ starts) → get_or (start ∷ starts) k 0 ≤ get_or (first ∷ rest) k 0) [ zero ↦ (λ l. p) | suc k ↦ (λ l. r.from_start k (omega arith)) ];
  before_end = λ axis. elim axis as (λ k. k < length (start ∷ starts) → get_or (first ∷ rest) k 0 < get_or (start ∷ starts) k 0 + get_or (len ∷ lengths) k 0) [ zero ↦ (λ l. q) | suc k ↦ (λ l. r.before_end k (omega arith)) ];
}

pub from_box : (starts lengths tuple : List ℕ) → length starts ≡ length lengths → Contains (box_tuples starts lengths) tuple → IsInBox starts lengths tuple
from_box [] [] [] e c = record { axes = refl; from_start = λ axis l. absurd (omega arith); before_end = λ axis l. absurd (omega arith) }
from_box [] [] (first ∷ rest) e c = absurd (one_empty first rest c.0 c.1 c.2)
  where
    one_empty : (first : ℕ) (rest : List ℕ) (k : ℕ) → k < 1 → get_or ([] ∷ []) k (first ∷ rest) ≡ first ∷ rest → ⊥
    one_empty first rest zero l e = cc
    one_empty first rest (suc k) l e = omega arith
from_box [] (len ∷ lengths) tuple e c = absurd (omega arith)
from_box (start ∷ starts) [] tuple e c = absurd (omega arith)
from_box (start ∷ starts) (len ∷ lengths) [] e c = absurd (no_empty len start (box_tuples starts lengths) c)
from_box (start ∷ starts) (len ∷ lengths) (first ∷ rest) e c =
    let r = from_rows len start first (box_tuples starts lengths) rest c in
    IsInBox-first start len first starts lengths rest r.0 r.1 (from_box starts lengths rest (omega arith) r.2)

IsInBox-rest : (start len first : ℕ) (starts lengths rest : List ℕ) → IsInBox (start ∷ starts) (len ∷ lengths) (first ∷ rest) → IsInBox starts lengths rest
IsInBox-rest start len first starts lengths rest r = record {
  axes = omega (arith, r.axes);
  from_start = λ axis l. r.from_start (suc axis) (omega arith);
  before_end = λ axis l. r.before_end (suc axis) (omega arith);
}

pub into_box : (starts lengths tuple : List ℕ) → length starts ≡ length lengths → IsInBox starts lengths tuple → Contains (box_tuples starts lengths) tuple
into_box [] lengths [] e r = (0, omega arith, refl)
into_box [] lengths (first ∷ rest) e r = absurd (omega (arith, r.axes))
into_box (start ∷ starts) [] tuple e r = absurd (omega arith)
into_box (start ∷ starts) (len ∷ lengths) [] e r = absurd (omega (arith, r.axes))
into_box (start ∷ starts) (len ∷ lengths) (first ∷ rest) e r =
    let p : start ≤ first = r.from_start 0 (omega arith) in
    let q : first < start + len = r.before_end 0 (omega arith) in
    let same : start + (first - start) ≡ first = omega arith in
    rw same at (into_rows len start (first - start) (box_tuples starts lengths) rest (omega arith) (into_box starts lengths rest (omega arith) (IsInBox-rest start len first starts lengths rest r)))

pub box_inside_by_axis : (sizes starts lengths : List ℕ) → (is_box_inside sizes starts lengths ≡ true) ↔ IsBoxInShape sizes starts lengths
box_inside_by_axis sizes starts lengths = (
  (λ h. let axes = is_box_inside-lengths sizes starts lengths h in record { starts_axes = axes.0; lengths_axes = axes.1; ends = λ axis l. is_box_inside-at sizes starts lengths axis h l }),
  (λ r. is_box_inside-all sizes starts lengths r.starts_axes r.lengths_axes r.ends),
)

pub tuples_of_box_inside : (sizes starts lengths tuple : List ℕ) → is_box_inside sizes starts lengths ≡ true → Contains (box_tuples starts lengths) tuple → is_tuple_inside sizes tuple ≡ true
tuples_of_box_inside sizes starts lengths tuple h c =
    let axes = is_box_inside-lengths sizes starts lengths h in
    let r = from_box starts lengths tuple (axes.0 ∙ sym axes.1) c in
    is_tuple_inside-all sizes tuple (r.axes ∙ axes.0)
    (λ axis l. let end = is_box_inside-at sizes starts lengths axis h l in
    let before : get_or tuple axis 0 < get_or starts axis 0 + get_or lengths axis 0 = r.before_end axis (omega (arith, axes.0)) in
    omega arith)
