-- A plan of a region cuts it, and its keys differ.
use Rattle.std.proofs.Common.{◌≡◌, ◌∙◌, ℕ, zero, suc, ◌+◌, ◌*◌, ◌<◌, ◌≤◌, ◌^◌, true, List, [], ◌∷◌, length, map, drop, get_or, arith, refl, ap, ap₂, sym, subst, string_bytes}
use Rattle.std.specs.List.{All, Contains, range_with_len}
use Rattle.std.proofs.Math.Nat.{mul-le-mul}
use Rattle.std.proofs.lemmas.List.{length-map, get_or-map}
use Rattle.std.proofs.lemmas.List.Elements.{All-head, All-tail, All-nil, All-cons, All-get_or, All-contains, All-weaker, All-contains_itself, Contains-get_or}
use Rattle.std.proofs.lemmas.List.FromFn.{length-map-range_with_len, get_or-map-range_with_len}
use Rattle.std.proofs.lemmas.Simd.{map-map}
use Rattle.zarrs_chunk.specs.ChunkShape.{product}
use Rattle.zarrs_chunk.specs.Indices.{tuple_of_number, indices_behind, box_tuple}
use Rattle.zarrs_chunk.specs.Region.{Region}
use Rattle.zarrs_chunk.specs.Tuples.{row_major, is_tuple_inside}
use Rattle.zarrs_chunk.proofs.NumberedTuples.{row_major-tuple_of_number, length-tuple_of_number, box_tuples-numbered}
use Rattle.zarrs_grid.specs.ChunkTuples.{quotients}
use Rattle.zarrs_grid.specs.GridLaws.{chunk_of_tuple, IsPartOfBoth}
use Rattle.zarrs_grid.specs.Parts.{box_in_region, starts_in_region, part_lengths, IsChunkPart}
use Rattle.zarrs_grid.specs.Touched.{touched_counts, touched_chunks}
use Rattle.zarrs_grid.specs.declared.chunk_part.ChunkPart.{ChunkPart}
use Rattle.zarrs_grid.proofs.Cut.{listed_touches, parts_cut}
use Rattle.zarrs_grid.proofs.KnownBoxes.{touched_region}
use Rattle.zarrs_grid.proofs.NumberedChunks.{chunk_in}
use Rattle.zarrs_grid.proofs.Tuples.{Touches, Touches-length, is_in_region}
use Rattle.zarrs_array_plan.specs.ArrayForm.{ArrayForm}
use Rattle.zarrs_array_plan.specs.ChunkKeys.{key_of}
use Rattle.zarrs_array_plan.specs.Joined.{IsRegionPart}
use Rattle.zarrs_array_plan.specs.PlanLaws.{HasTuple, PlansCutTheRegion}
use Rattle.zarrs_array_plan.specs.Planned.{LiesInArray, IsRegionPlan, HasOwnKey}
use Rattle.zarrs_array_plan.specs.declared.planned_chunk.PlannedChunk.{PlannedChunk}
use Rattle.zarrs_array_plan.proofs.Keys.{is_small, keys_apart}

-- ---- what a list has, through a map

from_at : {X Y : Type 0} (f : X → Y) (xs : List X) (y : Y) (k : ℕ) → k < length (map f xs) → get_or (map f xs) k y ≡ y
    → (x : X) × Contains xs x × (f x ≡ y)
from_at f [] y k l e = absurd (omega arith)
from_at f (x ∷ xs) y zero l e = (x, (0, omega arith, refl), e)
from_at f (x ∷ xs) y (suc k) l e =
    let found = from_at f xs y k (omega arith) e in
    let at = found.1 in
    (found.0, (suc at.0, omega (arith, at.1), at.2), found.2)

contains_from : {X Y : Type 0} (f : X → Y) (xs : List X) (y : Y) → Contains (map f xs) y → (x : X) × Contains xs x × (f x ≡ y)
contains_from f xs y c = from_at f xs y c.0 c.1 c.2

contains_into : {X Y : Type 0} (f : X → Y) (xs : List X) (x : X) → Contains xs x → Contains (map f xs) (f x)
contains_into f xs x c = (c.0, omega (arith, c.1, length-map xs f), get_or-map f xs c.0 x (f x) c.1 ∙ ap f c.2)

-- ---- the chunks of a plan

abbrev part_in : PlannedChunk → ChunkPart
part_in it = it.part

-- a planned part is the region's in a chunk that it touches
pub own_part : (form : ArrayForm) (region : Region) (planned : List PlannedChunk) → LiesInArray form region → IsRegionPlan form region planned
    → (it : PlannedChunk) → Contains planned it → IsRegionPart form.chunk_shape region it.part
own_part form region planned lies plan it c =
    let among = contains_into part_in planned it c in
    record {
      grid = lies.grid;
      counted = lies.counted;
      touched = subst (λ (cs : List (List ℕ)). Contains cs it.part.chunk.items) plan.parts.chunks
          (contains_into chunk_in (map part_in planned) it.part among);
      is = All-contains (λ (part : ChunkPart). IsChunkPart form.chunk_shape region part.chunk.items part) (map part_in planned) it.part plan.parts.each among;
    }

-- each chunk that is touched is planned
chunk_planned : (form : ArrayForm) (region : Region) (planned : List PlannedChunk) → IsRegionPlan form region planned
    → (numbers : List ℕ) → Contains (touched_chunks form.chunk_shape region) numbers
    → (it : PlannedChunk) × Contains planned it × (it.part.chunk.items ≡ numbers)
chunk_planned form region planned plan numbers c =
    let part = contains_from chunk_in (map part_in planned) numbers (subst (λ (cs : List (List ℕ)). Contains cs numbers) (sym plan.parts.chunks) c) in
    let it = contains_from part_in planned part.0 part.1 in
    (it.0, it.1, ap chunk_in it.2 ∙ part.2)

-- ---- tuples

module _ (form : ArrayForm) (region : Region) (planned : List PlannedChunk) (lies : LiesInArray form region) (plan : IsRegionPlan form region planned) where
  abbrev shape : List ℕ
  shape = form.chunk_shape

  some : (tuple : List ℕ) → is_tuple_inside region.lengths tuple ≡ true → (it : PlannedChunk) × Contains planned it × HasTuple it tuple
  some tuple h =
      let in_one = (parts_cut shape region lies.grid).tuples tuple h in
      let found = chunk_planned form region planned plan (chunk_of_tuple shape region tuple) in_one.chunk in
      let it = found.0 in
      let own = own_part form region planned lies plan it found.1 in
      let box = ap (box_in_region shape region) (sym found.2) ∙ sym own.is.in_region in
      let offset = in_one.part.0 in
      let here = in_one.part.1 in (
        it,
        found.1,
        (
          offset,
          subst (λ (b : Region). is_tuple_inside b.lengths offset ≡ true) box here.inside,
          subst (λ (b : Region). indices_behind b.starts offset ≡ tuple) box here.from_start,
        ),
      )

  -- the chunk of a part that has a tuple
  chunk_with : (tuple : List ℕ) (it : PlannedChunk) → Contains planned it → HasTuple it tuple
      → it.part.chunk.items ≡ chunk_of_tuple shape region tuple
  chunk_with tuple it c has =
      let own = own_part form region planned lies plan it c in
      let numbers = it.part.chunk.items in
      let offset = has.0 in
      let inside : is_tuple_inside (part_lengths shape numbers region.starts region.lengths) offset ≡ true =
      subst (λ (b : Region). is_tuple_inside b.lengths offset ≡ true) own.is.in_region has.1 in
      let from : indices_behind (starts_in_region shape numbers region.starts) offset ≡ tuple =
      subst (λ (b : Region). indices_behind b.starts offset ≡ tuple) own.is.in_region has.2 in
      let touches = listed_touches shape region numbers lies.grid own.touched in
      let there = subst (λ (t : List ℕ). is_tuple_inside region.lengths t ≡ true) from
      (is_in_region shape numbers region.starts region.lengths offset touches inside) in
      ((parts_cut shape region lies.grid).tuples tuple there).no_other numbers offset own.touched (record { inside = inside; from_start = from })

-- ---- chunks of a plan differ

behind_same : (starts one other : List ℕ) → length one ≡ length starts → length other ≡ length starts
    → indices_behind starts one ≡ indices_behind starts other → one ≡ other
behind_same [] [] [] p q e = refl
behind_same [] [] (n ∷ other) p q e = absurd (omega arith)
behind_same [] (m ∷ one) other p q e = absurd (omega arith)
behind_same (start ∷ starts) [] other p q e = absurd (omega arith)
behind_same (start ∷ starts) (m ∷ one) [] p q e = absurd (omega arith)
behind_same (start ∷ starts) (m ∷ one) (n ∷ other) p q e =
    let h : start + m ≡ start + n = cc in
    ap₂ (λ i xs. i ∷ xs) (omega (arith, h)) (behind_same starts one other (omega arith) (omega arith) (ap (drop 1) e))

-- no two tuples of a box are the same
box_tuple_same : (starts lengths : List ℕ) (i j : ℕ) → length starts ≡ length lengths → i < product lengths → j < product lengths
    → box_tuple starts lengths i ≡ box_tuple starts lengths j → i ≡ j
box_tuple_same starts lengths i j e l m same =
    let tuples = behind_same starts (tuple_of_number lengths i) (tuple_of_number lengths j) (length-tuple_of_number lengths i ∙ sym e)
    (length-tuple_of_number lengths j ∙ sym e) same in
    sym (row_major-tuple_of_number lengths i l) ∙ ap (row_major lengths) tuples ∙ row_major-tuple_of_number lengths j m

-- 64 bits hold the indices of a chunk that is touched
touched_small : (shape numbers starts lengths : List ℕ) → All (λ size. 0 < size) shape → Touches shape numbers starts lengths
    → ((axis : ℕ) → axis < length starts → get_or starts axis 0 + get_or lengths axis 0 < 2 ^ 64) → All is_small numbers
touched_small [] [] starts lengths p r ends = All-nil is_small
touched_small [] (number ∷ numbers) starts lengths p r ends = absurd r
touched_small (size ∷ shape) [] starts lengths p r ends = All-nil is_small
touched_small (size ∷ shape) (number ∷ numbers) [] lengths p r ends = absurd r
touched_small (size ∷ shape) (number ∷ numbers) (start ∷ starts) [] p r ends = absurd r
touched_small (size ∷ shape) (number ∷ numbers) (start ∷ starts) (len ∷ lengths) p r ends =
    let some : 1 ≤ size = All-head (λ size. 0 < size) size shape p in
    let begins : number * size < start + len = r.0 in
    let end : start + len < 2 ^ 64 = ends 0 (omega arith) in
    let wide : number * 1 ≤ number * size = mul-le-mul {n₁ = number} {m₁ = 1} {n₂ = number} {m₂ = size} (omega arith) some in
    All-cons is_small number numbers (omega (arith, wide, begins, end))
    (touched_small shape numbers starts lengths (All-tail (λ size. 0 < size) size shape p) r.2 (λ axis l. ends (suc axis) (omega arith)))

module _ (form : ArrayForm) (region : Region) (planned : List PlannedChunk) (lies : LiesInArray form region) (plan : IsRegionPlan form region planned) where
  abbrev own_chunk : PlannedChunk → List ℕ
  own_chunk it = it.part.chunk.items

  abbrev first : List ℕ
  first = quotients form.chunk_shape region.starts

  abbrev counts : List ℕ
  counts = touched_counts form.chunk_shape region.starts region.lengths

  axes : length first ≡ length counts
  axes = (touched_region form.chunk_shape region.starts region.lengths lies.grid.positive lies.grid.starts lies.grid.lengths lies.ends.ends).axes

  numbered : map own_chunk planned ≡ map (box_tuple first counts) (range_with_len 0 (product counts))
  numbered = sym (map-map chunk_in part_in planned) ∙ plan.parts.chunks ∙ box_tuples-numbered first counts axes

  as_many : length planned ≡ product counts
  as_many =
      sym (length-map planned own_chunk) ∙ ap (λ (cs : List (List ℕ)). length cs) numbered
      ∙ length-map-range_with_len (box_tuple first counts) 0 (product counts)

  chunk_at : (k : ℕ) (d : PlannedChunk) → k < length planned → own_chunk (get_or planned k d) ≡ box_tuple first counts k
  chunk_at k d l =
      sym (get_or-map own_chunk planned k d [] l) ∙ ap (λ (cs : List (List ℕ)). get_or cs k []) numbered
      ∙ get_or-map-range_with_len (box_tuple first counts) 0 (product counts) k k [] (omega (arith, l, as_many)) (omega arith)

  touches_at : (it : PlannedChunk) → Contains planned it → Touches form.chunk_shape (own_chunk it) region.starts region.lengths
  touches_at it c = listed_touches form.chunk_shape region (own_chunk it) lies.grid (own_part form region planned lies plan it c).touched

  small_at : (it : PlannedChunk) → Contains planned it → All is_small (own_chunk it)
  small_at it c =
      touched_small form.chunk_shape (own_chunk it) region.starts region.lengths lies.grid.positive (touches_at it c) lies.ends.ends

  long_at : (it : PlannedChunk) → Contains planned it → length (own_chunk it) ≡ length form.chunk_shape
  long_at it c = Touches-length form.chunk_shape (own_chunk it) region.starts region.lengths (touches_at it c)

  keys_at : (i j : ℕ) (d : PlannedChunk) → i < j → j < length planned
      → string_bytes (get_or planned i d).key ≡ string_bytes (get_or planned j d).key → ⊥
  keys_at i j d l m same =
      let it = get_or planned i d in
      let other = get_or planned j d in
      let below : i < length planned = omega (arith, l, m) in
      let here = Contains-get_or planned i d below in
      let there = Contains-get_or planned j d m in
      let own : string_bytes it.key ≡ key_of form.keys (own_chunk it) = All-get_or (HasOwnKey form.keys) planned i d below plan.keys in
      let others : string_bytes other.key ≡ key_of form.keys (own_chunk other) = All-get_or (HasOwnKey form.keys) planned j d m plan.keys in
      let chunks = keys_apart form.keys (own_chunk it) (own_chunk other) (long_at it here ∙ sym (long_at other there)) (small_at it here) (small_at other there)
      (sym own ∙ same ∙ others) in
      let number = box_tuple_same first counts i j axes (omega (arith, below, as_many)) (omega (arith, m, as_many)) (sym (chunk_at i d below) ∙ chunks ∙ chunk_at j d m) in
      omega (arith, l, number)

pub plans_cut : PlansCutTheRegion
plans_cut form region planned lies plan = record {
  parts = All-weaker (Contains planned) (λ it. IsRegionPart form.chunk_shape region it.part)
      (λ it c. own_part form region planned lies plan it c) planned (All-contains_itself planned);
  both = All-weaker (Contains planned) (λ it. IsPartOfBoth form.chunk_shape region it.part.chunk.items)
      (λ it c. (parts_cut form.chunk_shape region lies.grid).parts it.part.chunk.items (own_part form region planned lies plan it c).touched)
      planned (All-contains_itself planned);
  some = some form region planned lies plan;
  one = λ tuple it other c d here there. chunk_with form region planned lies plan tuple it c here ∙ sym (chunk_with form region planned lies plan tuple other d there);
  keys = λ i j d l m. keys_at form region planned lies plan i j d l m;
}
