-- Tuples of a region, of the chunks that it touches, and of its part in each.
use Rattle.std.proofs.Common.{◌≡◌, ℕ, zero, suc, ◌+◌, ◌-◌, ◌*◌, ◌/◌, ◌<◌, ◌≤◌, min, max, true, false, List, [], ◌∷◌, length, get_or, arith, refl, ap, ap₂, sym, ◌∙◌}
use Rattle.std.specs.List.{All}
use Rattle.std.proofs.lemmas.Bool.{and_from, and_parts, false_from_ne_true}
use Rattle.std.proofs.lemmas.List.Elements.{All-head, All-tail}
use Rattle.std.proofs.lemmas.Nat.{div-mul-add}
use Rattle.zarrs_chunk.specs.Indices.{indices_behind}
use Rattle.zarrs_chunk.specs.InsideByAxis.{IsInBox}
use Rattle.zarrs_chunk.specs.Tuples.{is_box_inside, is_tuple_inside}
use Rattle.zarrs_chunk.proofs.Inside.{lt_test, le_test, from_lt_test, from_le_test}
use Rattle.zarrs_grid.specs.ChunkTuples.{quotients, tuple_in_array}
use Rattle.zarrs_grid.specs.Touched.{touched_counts, is_in_box}
use Rattle.zarrs_grid.specs.Parts.{part_from, starts_in_chunk, starts_in_region, part_lengths}
use Rattle.zarrs_grid.proofs.OneAxis.{chunk_begins, chunk_ends, quotient_le, quotient_touched, begins_before, ends_behind}

-- axis by axis, the tuple lies in the box
abbrev pub InBox : List ℕ → List ℕ → List ℕ → Type 0
InBox [] [] [] = Unit {0}
InBox (start ∷ starts) (len ∷ lengths) (index ∷ tuple) = (start ≤ index) × (index < start + len) × InBox starts lengths tuple
InBox _ _ _ = ⊥

-- axis by axis, the chunk and the range have indices in common
abbrev pub Touches : List ℕ → List ℕ → List ℕ → List ℕ → Type 0
Touches [] [] [] [] = Unit {0}
Touches (size ∷ shape) (number ∷ numbers) (start ∷ starts) (len ∷ lengths) =
    (number * size < start + len) × (start < number * size + size) × Touches shape numbers starts lengths
Touches _ _ _ _ = ⊥

pub in_box : (starts lengths tuple : List ℕ) → length starts ≡ length lengths → IsInBox starts lengths tuple → InBox starts lengths tuple
in_box [] [] [] e r = tt
in_box [] [] (index ∷ tuple) e r = absurd (omega (arith, r.axes))
in_box [] (len ∷ lengths) tuple e r = absurd (omega arith)
in_box (start ∷ starts) [] tuple e r = absurd (omega arith)
in_box (start ∷ starts) (len ∷ lengths) [] e r = absurd (omega (arith, r.axes))
in_box (start ∷ starts) (len ∷ lengths) (index ∷ tuple) e r = (
  r.from_start 0 (omega arith),
  r.before_end 0 (omega arith),
  in_box starts lengths tuple (omega arith) (record {
    axes = omega (arith, r.axes);
    from_start = λ axis l. r.from_start (suc axis) (omega arith);
    before_end = λ axis l. r.before_end (suc axis) (omega arith);
  }),
)

pub from_in_box : (starts lengths tuple : List ℕ) → InBox starts lengths tuple → IsInBox starts lengths tuple
from_in_box [] [] [] r = record { axes = refl; from_start = λ axis l. absurd (omega arith); before_end = λ axis l. absurd (omega arith) }
from_in_box [] [] (index ∷ tuple) r = absurd r
from_in_box [] (len ∷ lengths) tuple r = absurd r
from_in_box (start ∷ starts) [] tuple r = absurd r
from_in_box (start ∷ starts) (len ∷ lengths) [] r = absurd r
from_in_box (start ∷ starts) (len ∷ lengths) (index ∷ tuple) r =
    let rest = from_in_box starts lengths tuple r.2 in
    record {
      axes = ap suc rest.axes;
      from_start = λ axis. elim axis as (λ k. k < length (start ∷ starts) → get_or (start ∷ starts) k 0 ≤ get_or (index ∷ tuple) k 0) [
        | zero ↦ (λ l. r.0)
        | suc k ↦ (λ l. rest.from_start k (omega arith))
      ];
      before_end = λ axis. elim axis as (λ k. k < length (start ∷ starts)
          → get_or (index ∷ tuple) k 0 < get_or (start ∷ starts) k 0 + get_or (len ∷ lengths) k 0) [
            | zero ↦ (λ l. r.1)
            | suc k ↦ (λ l. rest.before_end k (omega arith))
          ];
    }

-- the same by its test
pub box_test : (starts lengths tuple : List ℕ) → InBox starts lengths tuple → is_in_box starts lengths tuple ≡ true
box_test [] [] [] r = refl
box_test [] [] (index ∷ tuple) r = absurd r
box_test [] (len ∷ lengths) tuple r = absurd r
box_test (start ∷ starts) [] tuple r = absurd r
box_test (start ∷ starts) (len ∷ lengths) [] r = absurd r
box_test (start ∷ starts) (len ∷ lengths) (index ∷ tuple) r =
    and_from _ _ (and_from _ _ (le_test _ _ r.0) (lt_test _ _ r.1)) (box_test starts lengths tuple r.2)

pub from_box_test : (starts lengths tuple : List ℕ) → is_in_box starts lengths tuple ≡ true → InBox starts lengths tuple
from_box_test [] [] [] h = tt
from_box_test [] [] (index ∷ tuple) h = absurd (cc)
from_box_test [] (len ∷ lengths) tuple h = absurd (cc)
from_box_test (start ∷ starts) [] tuple h = absurd (cc)
from_box_test (start ∷ starts) (len ∷ lengths) [] h = absurd (cc)
from_box_test (start ∷ starts) (len ∷ lengths) (index ∷ tuple) h =
    let both = and_parts _ _ h in
    let here = and_parts _ _ both.0 in
    (from_le_test _ _ here.0, from_lt_test _ _ here.1, from_box_test starts lengths tuple both.1)

pub not_in_box : (starts lengths tuple : List ℕ) → (IsInBox starts lengths tuple → ⊥) → is_in_box starts lengths tuple ≡ false
not_in_box starts lengths tuple never = false_from_ne_true _ (λ e. never (from_in_box starts lengths tuple (from_box_test starts lengths tuple e)))

-- the chunk of a tuple of the region is touched
pub quotients_touched : (shape starts lengths tuple : List ℕ) → All (λ size. 0 < size) shape → length starts ≡ length shape
    → InBox starts lengths tuple
    → InBox (quotients shape starts) (touched_counts shape starts lengths) (quotients shape tuple)
quotients_touched [] [] lengths tuple p e r = tt
quotients_touched [] (start ∷ starts) lengths tuple p e r = absurd (omega arith)
quotients_touched (size ∷ shape) [] lengths tuple p e r = absurd (omega arith)
quotients_touched (size ∷ shape) (start ∷ starts) [] tuple p e r = absurd r
quotients_touched (size ∷ shape) (start ∷ starts) (len ∷ lengths) [] p e r = absurd r
quotients_touched (size ∷ shape) (start ∷ starts) (len ∷ lengths) (index ∷ tuple) p e r =
    let some = All-head (λ size. 0 < size) size shape p in
    let rest = quotients_touched shape starts lengths tuple (All-tail (λ size. 0 < size) size shape p) (omega arith) r.2 in
    (quotient_le size start index some r.0, quotient_touched size start len index some r.0 r.1, rest)

-- a chunk that is touched has indices of the range along each axis
pub touches : (shape starts lengths numbers : List ℕ) → All (λ size. 0 < size) shape → length starts ≡ length shape → length lengths ≡ length shape
    → InBox (quotients shape starts) (touched_counts shape starts lengths) numbers → Touches shape numbers starts lengths
touches [] [] [] [] p e f r = tt
touches [] [] [] (number ∷ numbers) p e f r = absurd r
touches [] [] (len ∷ lengths) numbers p e f r = absurd (omega arith)
touches [] (start ∷ starts) lengths numbers p e f r = absurd (omega arith)
touches (size ∷ shape) [] lengths numbers p e f r = absurd (omega arith)
touches (size ∷ shape) (start ∷ starts) [] numbers p e f r = absurd (omega arith)
touches (size ∷ shape) (start ∷ starts) (len ∷ lengths) [] p e f r = absurd r
touches (size ∷ shape) (start ∷ starts) (len ∷ lengths) (number ∷ numbers) p e f r =
    let some = All-head (λ size. 0 < size) size shape p in
    let rest = touches shape starts lengths numbers (All-tail (λ size. 0 < size) size shape p) (omega arith) (omega arith) r.2 in
    (begins_before size start len number some r.1 r.0, ends_behind size start number some r.0, rest)

-- ---- the part's two boxes

pub part_in_chunk : (shape numbers starts lengths : List ℕ) → Touches shape numbers starts lengths
    → is_box_inside shape (starts_in_chunk shape numbers starts) (part_lengths shape numbers starts lengths) ≡ true
part_in_chunk [] [] [] [] r = refl
part_in_chunk [] [] [] (len ∷ lengths) r = absurd r
part_in_chunk [] [] (start ∷ starts) lengths r = absurd r
part_in_chunk [] (number ∷ numbers) starts lengths r = absurd r
part_in_chunk (size ∷ shape) [] starts lengths r = absurd r
part_in_chunk (size ∷ shape) (number ∷ numbers) [] lengths r = absurd r
part_in_chunk (size ∷ shape) (number ∷ numbers) (start ∷ starts) [] r = absurd r
part_in_chunk (size ∷ shape) (number ∷ numbers) (start ∷ starts) (len ∷ lengths) r =
    and_from _ _ (le_test _ _ (on_axis (number * size) size start len r.0 r.1)) (part_in_chunk shape numbers starts lengths r.2)
  where
    on_axis : (base size start len : ℕ) → base < start + len → start < base + size
        → (max start base - base) + (min (start + len) (base + size) - max start base) ≤ size
    on_axis base size start len h l = omega arith

pub part_in_region : (shape numbers starts lengths : List ℕ) → Touches shape numbers starts lengths
    → is_box_inside lengths (starts_in_region shape numbers starts) (part_lengths shape numbers starts lengths) ≡ true
part_in_region [] [] [] [] r = refl
part_in_region [] [] [] (len ∷ lengths) r = absurd r
part_in_region [] [] (start ∷ starts) lengths r = absurd r
part_in_region [] (number ∷ numbers) starts lengths r = absurd r
part_in_region (size ∷ shape) [] starts lengths r = absurd r
part_in_region (size ∷ shape) (number ∷ numbers) [] lengths r = absurd r
part_in_region (size ∷ shape) (number ∷ numbers) (start ∷ starts) [] r = absurd r
part_in_region (size ∷ shape) (number ∷ numbers) (start ∷ starts) (len ∷ lengths) r =
    and_from _ _ (le_test _ _ (on_axis (number * size) size start len r.0 r.1)) (part_in_region shape numbers starts lengths r.2)
  where
    on_axis : (base size start len : ℕ) → base < start + len → start < base + size
        → (max start base - start) + (min (start + len) (base + size) - max start base) ≤ len
    on_axis base size start len h l = omega arith

-- a tuple of the part: the same element of the array through either box
pub same_element : (shape numbers starts lengths offset : List ℕ) → Touches shape numbers starts lengths
    → is_tuple_inside (part_lengths shape numbers starts lengths) offset ≡ true
    → tuple_in_array shape numbers (indices_behind (starts_in_chunk shape numbers starts) offset) ≡ indices_behind starts
    (indices_behind (starts_in_region shape numbers starts) offset)
same_element [] [] [] [] offset r h = refl
same_element [] [] [] (len ∷ lengths) offset r h = absurd r
same_element [] [] (start ∷ starts) lengths offset r h = absurd r
same_element [] (number ∷ numbers) starts lengths offset r h = absurd r
same_element (size ∷ shape) [] starts lengths offset r h = absurd r
same_element (size ∷ shape) (number ∷ numbers) [] lengths offset r h = absurd r
same_element (size ∷ shape) (number ∷ numbers) (start ∷ starts) [] offset r h = absurd r
same_element (size ∷ shape) (number ∷ numbers) (start ∷ starts) (len ∷ lengths) [] r h = absurd (cc)
same_element (size ∷ shape) (number ∷ numbers) (start ∷ starts) (len ∷ lengths) (index ∷ offset) r h =
    ap₂ (λ i t. i ∷ t) (on_axis (number * size) start index) (same_element shape numbers starts lengths offset r.2 (and_parts _ _ h).1)
  where
    on_axis : (base start index : ℕ) → base + (max start base - base + index) ≡ start + (max start base - start + index)
    on_axis base start index = omega arith

-- it lies in the chunk, and is one of the region
pub is_in_chunk : (shape numbers starts lengths offset : List ℕ) → Touches shape numbers starts lengths
    → is_tuple_inside (part_lengths shape numbers starts lengths) offset ≡ true
    → is_tuple_inside shape (indices_behind (starts_in_chunk shape numbers starts) offset) ≡ true
is_in_chunk [] [] [] [] [] r h = refl
is_in_chunk [] [] [] [] (index ∷ offset) r h = absurd (cc)
is_in_chunk [] [] [] (len ∷ lengths) offset r h = absurd r
is_in_chunk [] [] (start ∷ starts) lengths offset r h = absurd r
is_in_chunk [] (number ∷ numbers) starts lengths offset r h = absurd r
is_in_chunk (size ∷ shape) [] starts lengths offset r h = absurd r
is_in_chunk (size ∷ shape) (number ∷ numbers) [] lengths offset r h = absurd r
is_in_chunk (size ∷ shape) (number ∷ numbers) (start ∷ starts) [] offset r h = absurd r
is_in_chunk (size ∷ shape) (number ∷ numbers) (start ∷ starts) (len ∷ lengths) [] r h = absurd (cc)
is_in_chunk (size ∷ shape) (number ∷ numbers) (start ∷ starts) (len ∷ lengths) (index ∷ offset) r h =
    and_from _ _ (lt_test _ _ (on_axis (number * size) size start len index r.0 r.1 (from_lt_test _ _ (and_parts _ _ h).0)))
    (is_in_chunk shape numbers starts lengths offset r.2 (and_parts _ _ h).1)
  where
    on_axis : (base size start len index : ℕ) → base < start + len → start < base + size
        → index < min (start + len) (base + size) - max start base → max start base - base + index < size
    on_axis base size start len index h l i = omega arith

pub is_in_region : (shape numbers starts lengths offset : List ℕ) → Touches shape numbers starts lengths
    → is_tuple_inside (part_lengths shape numbers starts lengths) offset ≡ true
    → is_tuple_inside lengths (indices_behind (starts_in_region shape numbers starts) offset) ≡ true
is_in_region [] [] [] [] [] r h = refl
is_in_region [] [] [] [] (index ∷ offset) r h = absurd (cc)
is_in_region [] [] [] (len ∷ lengths) offset r h = absurd r
is_in_region [] [] (start ∷ starts) lengths offset r h = absurd r
is_in_region [] (number ∷ numbers) starts lengths offset r h = absurd r
is_in_region (size ∷ shape) [] starts lengths offset r h = absurd r
is_in_region (size ∷ shape) (number ∷ numbers) [] lengths offset r h = absurd r
is_in_region (size ∷ shape) (number ∷ numbers) (start ∷ starts) [] offset r h = absurd r
is_in_region (size ∷ shape) (number ∷ numbers) (start ∷ starts) (len ∷ lengths) [] r h = absurd (cc)
is_in_region (size ∷ shape) (number ∷ numbers) (start ∷ starts) (len ∷ lengths) (index ∷ offset) r h =
    and_from _ _ (lt_test _ _ (on_axis (number * size) size start len index r.0 r.1 (from_lt_test _ _ (and_parts _ _ h).0)))
    (is_in_region shape numbers starts lengths offset r.2 (and_parts _ _ h).1)
  where
    on_axis : (base size start len index : ℕ) → base < start + len → start < base + size
        → index < min (start + len) (base + size) - max start base → max start base - start + index < len
    on_axis base size start len index h l i = omega arith

-- ---- chunks and their tuples

-- a tuple of a chunk is of no other chunk
pub chunk_again : (shape numbers tuple : List ℕ) → length numbers ≡ length shape → is_tuple_inside shape tuple ≡ true
    → quotients shape (tuple_in_array shape numbers tuple) ≡ numbers
chunk_again [] [] tuple e h = refl
chunk_again [] (number ∷ numbers) tuple e h = absurd (omega arith)
chunk_again (size ∷ shape) [] tuple e h = absurd (omega arith)
chunk_again (size ∷ shape) (number ∷ numbers) [] e h = absurd (cc)
chunk_again (size ∷ shape) (number ∷ numbers) (index ∷ tuple) e h =
    ap₂ (λ i t. i ∷ t) (div-mul-add number size index (from_lt_test _ _ (and_parts _ _ h).0)) (chunk_again shape numbers tuple (omega arith) (and_parts _ _ h).1)

pub Touches-length : (shape numbers starts lengths : List ℕ) → Touches shape numbers starts lengths → length numbers ≡ length shape
Touches-length [] [] starts lengths r = refl
Touches-length [] (number ∷ numbers) starts lengths r = absurd r
Touches-length (size ∷ shape) [] starts lengths r = absurd r
Touches-length (size ∷ shape) (number ∷ numbers) [] lengths r = absurd r
Touches-length (size ∷ shape) (number ∷ numbers) (start ∷ starts) [] r = absurd r
Touches-length (size ∷ shape) (number ∷ numbers) (start ∷ starts) (len ∷ lengths) r = ap suc (Touches-length shape numbers starts lengths r.2)

-- a tuple of the part is of this chunk and of no other
pub chunk_of_part : (shape numbers starts lengths offset : List ℕ) → Touches shape numbers starts lengths
    → is_tuple_inside (part_lengths shape numbers starts lengths) offset ≡ true
    → quotients shape (indices_behind starts (indices_behind (starts_in_region shape numbers starts) offset)) ≡ numbers
chunk_of_part shape numbers starts lengths offset r h =
    ap (quotients shape) (sym (same_element shape numbers starts lengths offset r h))
    ∙ chunk_again shape numbers (indices_behind (starts_in_chunk shape numbers starts) offset) (Touches-length shape numbers starts lengths r)
    (is_in_chunk shape numbers starts lengths offset r h)

-- ---- each tuple of the region is in the part of its chunk

-- how far a tuple of the region is behind the start of a part
abbrev pub offsets : List ℕ → List ℕ → List ℕ → List ℕ → List ℕ
offsets (size ∷ shape) (number ∷ numbers) (start ∷ starts) (index ∷ tuple) =
    (index - (part_from size number start - start)) ∷ offsets shape numbers starts tuple
offsets shape numbers starts tuple = []

-- the chunk that has a tuple of a region
abbrev pub chunk_with : List ℕ → List ℕ → List ℕ → List ℕ
chunk_with shape starts tuple = quotients shape (indices_behind starts tuple)

pub offset_inside : (shape starts lengths tuple : List ℕ) → All (λ size. 0 < size) shape → length starts ≡ length shape
    → length lengths ≡ length shape → is_tuple_inside lengths tuple ≡ true
    → is_tuple_inside (part_lengths shape (chunk_with shape starts tuple) starts lengths) (offsets shape (chunk_with shape starts tuple) starts tuple) ≡ true
offset_inside [] [] [] tuple p e f h = refl
offset_inside [] [] (len ∷ lengths) tuple p e f h = absurd (omega arith)
offset_inside [] (start ∷ starts) lengths tuple p e f h = absurd (omega arith)
offset_inside (size ∷ shape) [] lengths tuple p e f h = absurd (omega arith)
offset_inside (size ∷ shape) (start ∷ starts) [] tuple p e f h = absurd (omega arith)
offset_inside (size ∷ shape) (start ∷ starts) (len ∷ lengths) [] p e f h = absurd (cc)
offset_inside (size ∷ shape) (start ∷ starts) (len ∷ lengths) (index ∷ tuple) p e f h =
    let low = chunk_begins size (start + index) in
    let high = chunk_ends size (start + index) (All-head (λ size. 0 < size) size shape p) in
    and_from _ _ (lt_test _ _ (on_axis ((start + index) / size * size) size start len index low high (from_lt_test _ _ (and_parts _ _ h).0)))
    (offset_inside shape starts lengths tuple (All-tail (λ size. 0 < size) size shape p) (omega arith) (omega arith) (and_parts _ _ h).1)
  where
    on_axis : (base size start len index : ℕ) → base ≤ start + index → start + index < base + size → index < len
        → index - (max start base - start) < min (start + len) (base + size) - max start base
    on_axis base size start len index h l i = omega arith

pub offset_there : (shape starts lengths tuple : List ℕ) → length starts ≡ length shape → length lengths ≡ length shape
    → is_tuple_inside lengths tuple ≡ true
    → indices_behind (starts_in_region shape (chunk_with shape starts tuple) starts) (offsets shape (chunk_with shape starts tuple) starts tuple) ≡ tuple
offset_there [] [] [] [] e f h = refl
offset_there [] [] [] (index ∷ tuple) e f h = absurd (cc)
offset_there [] [] (len ∷ lengths) tuple e f h = absurd (omega arith)
offset_there [] (start ∷ starts) lengths tuple e f h = absurd (omega arith)
offset_there (size ∷ shape) [] lengths tuple e f h = absurd (omega arith)
offset_there (size ∷ shape) (start ∷ starts) [] tuple e f h = absurd (omega arith)
offset_there (size ∷ shape) (start ∷ starts) (len ∷ lengths) [] e f h = absurd (cc)
offset_there (size ∷ shape) (start ∷ starts) (len ∷ lengths) (index ∷ tuple) e f h =
    let low = chunk_begins size (start + index) in
    ap₂ (λ i t. i ∷ t) (on_axis ((start + index) / size * size) start index low) (offset_there shape starts lengths tuple (omega arith) (omega arith) (and_parts _ _ h).1)
  where
    on_axis : (base start index : ℕ) → base ≤ start + index → (max start base - start) + (index - (max start base - start)) ≡ index
    on_axis base start index h = omega arith

-- a tuple of a region, counted from its start, lies in the region
pub behind_in_box : (starts lengths tuple : List ℕ) → length starts ≡ length lengths → is_tuple_inside lengths tuple ≡ true
    → InBox starts lengths (indices_behind starts tuple)
behind_in_box [] [] [] e h = tt
behind_in_box [] [] (index ∷ tuple) e h = absurd (cc)
behind_in_box [] (len ∷ lengths) tuple e h = absurd (omega arith)
behind_in_box (start ∷ starts) [] tuple e h = absurd (omega arith)
behind_in_box (start ∷ starts) (len ∷ lengths) [] e h = absurd (cc)
behind_in_box (start ∷ starts) (len ∷ lengths) (index ∷ tuple) e h =
    let small : index < len = from_lt_test _ _ (and_parts _ _ h).0 in
    (omega arith, omega arith, behind_in_box starts lengths tuple (omega arith) (and_parts _ _ h).1)

-- the chunk of such a tuple is touched
pub chunk_with-touches : (shape starts lengths tuple : List ℕ) → All (λ size. 0 < size) shape → length starts ≡ length shape
    → length lengths ≡ length shape → is_tuple_inside lengths tuple ≡ true
    → InBox (quotients shape starts) (touched_counts shape starts lengths) (chunk_with shape starts tuple)
chunk_with-touches shape starts lengths tuple p e f h =
    quotients_touched shape starts lengths (indices_behind starts tuple) p e (behind_in_box starts lengths tuple (e ∙ sym f) h)
