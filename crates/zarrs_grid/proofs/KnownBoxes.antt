-- Boxes that are known to be boxes: those of the chunks that a region touches, and of its part in each.
use Rattle.std.proofs.Common.{◌≡◌, ℕ, zero, suc, ◌+◌, ◌-◌, ◌*◌, ◌/◌, ◌^◌, ◌<◌, ◌≤◌, min, max, true, Ok, List, [], ◌∷◌, length, get_or, arith, refl, ap, sym, subst, ◌∙◌, eq-eqb}
use Rattle.std.specs.List.{All, Contains}
use Rattle.std.proofs.lemmas.Bool.{and_from}
use Rattle.std.proofs.lemmas.List.Elements.{All-head, All-tail}
use Rattle.std.proofs.Math.Nat.{div-le_self}
use Rattle.zarrs_chunk.specs.ArraySubset.{ends_fit, subset_of_start_shape}
use Rattle.zarrs_chunk.specs.Region.{Region, IsRegion}
use Rattle.zarrs_chunk.proofs.Inside.{lt_test}
use Rattle.zarrs_grid.specs.ChunkTuples.{quotients}
use Rattle.zarrs_grid.specs.Parts.{starts_in_chunk, starts_in_region, part_lengths, MeetByAxis}
use Rattle.zarrs_grid.specs.Touched.{FitsGrid, touched_count, touched_counts, touched_chunks}
use Rattle.zarrs_grid.proofs.Cut.{listed_touches}
use Rattle.zarrs_grid.proofs.OneAxis.{quotient_le}
use Rattle.zarrs_grid.proofs.Tuples.{Touches, Touches-length}

-- 64 bits hold where each range ends
abbrev EndBelow : List ℕ → List ℕ → Type 0
EndBelow starts lengths = (axis : ℕ) → axis < length starts → get_or starts axis 0 + get_or lengths axis 0 < 2 ^ 64

ends_tested : (starts lengths : List ℕ) → length starts ≡ length lengths → EndBelow starts lengths → ends_fit starts lengths ≡ true
ends_tested [] lengths e ends = refl
ends_tested (start ∷ starts) [] e ends = absurd (omega arith)
ends_tested (start ∷ starts) (len ∷ lengths) e ends =
    and_from _ _ (lt_test _ _ (ends 0 (omega arith))) (ends_tested starts lengths (omega arith) (λ axis l. ends (suc axis) (omega arith)))

-- a box that is one is made
pub box_made : (starts lengths : List ℕ) → IsRegion starts lengths
    → subset_of_start_shape starts lengths ≡ Ok (record { starts = starts; lengths = lengths })
box_made starts lengths r = rw (eq-eqb (length starts) (length lengths) r.axes, ends_tested starts lengths r.axes r.ends) refl

-- with one range more in front
range_more : (start len : ℕ) (starts lengths : List ℕ) → start + len < 2 ^ 64 → IsRegion starts lengths → IsRegion (start ∷ starts) (len ∷ lengths)
range_more start len starts lengths here r = record {
  axes = ap suc r.axes;
  ends = λ axis. elim axis as (λ k. k < length (start ∷ starts) → get_or (start ∷ starts) k 0 + get_or (len ∷ lengths) k 0 < 2 ^ 64) [
    | zero ↦ (λ l. here)
    | suc k ↦ (λ l. r.ends k (omega arith))
  ];
}

no_ranges : IsRegion [] []
no_ranges = record { axes = refl; ends = λ axis l. absurd (omega arith) }

-- ---- the box of the chunks that are touched

touched_end : (size start len : ℕ) → 0 < size → start / size + touched_count size start len ≤ start + len
touched_end size start zero p = let q = div-le_self start size in omega (arith, q)
touched_end size start (suc more) p =
    let q = div-le_self (start + more) size in
    let l = quotient_le size start (start + more) p (omega arith) in
    omega (arith, q, l)

pub touched_region : (shape starts lengths : List ℕ) → All (λ size. 0 < size) shape → length starts ≡ length shape
    → length lengths ≡ length shape → EndBelow starts lengths
    → IsRegion (quotients shape starts) (touched_counts shape starts lengths)
touched_region [] [] [] p e f ends = no_ranges
touched_region [] [] (len ∷ lengths) p e f ends = absurd (omega arith)
touched_region [] (start ∷ starts) lengths p e f ends = absurd (omega arith)
touched_region (size ∷ shape) [] lengths p e f ends = absurd (omega arith)
touched_region (size ∷ shape) (start ∷ starts) [] p e f ends = absurd (omega arith)
touched_region (size ∷ shape) (start ∷ starts) (len ∷ lengths) p e f ends =
    let below : start + len < 2 ^ 64 = ends 0 (omega arith) in
    let end = touched_end size start len (All-head (λ size. 0 < size) size shape p) in
    range_more _ _ _ _ (omega (arith, below, end)) (touched_region shape starts lengths (All-tail (λ size. 0 < size) size shape p) (omega arith)
    (omega arith) (λ axis l. ends (suc axis) (omega arith)))

-- ---- the boxes of a part

pub chunk_region : (shape numbers starts lengths : List ℕ) → Touches shape numbers starts lengths → EndBelow starts lengths
    → IsRegion (starts_in_chunk shape numbers starts) (part_lengths shape numbers starts lengths)
chunk_region [] [] [] [] r ends = no_ranges
chunk_region [] [] [] (len ∷ lengths) r ends = absurd r
chunk_region [] [] (start ∷ starts) lengths r ends = absurd r
chunk_region [] (number ∷ numbers) starts lengths r ends = absurd r
chunk_region (size ∷ shape) [] starts lengths r ends = absurd r
chunk_region (size ∷ shape) (number ∷ numbers) [] lengths r ends = absurd r
chunk_region (size ∷ shape) (number ∷ numbers) (start ∷ starts) [] r ends = absurd r
chunk_region (size ∷ shape) (number ∷ numbers) (start ∷ starts) (len ∷ lengths) r ends =
    range_more _ _ _ _ (on_axis (number * size) size start len r.0 r.1 (ends 0 (omega arith)))
    (chunk_region shape numbers starts lengths r.2 (λ axis l. ends (suc axis) (omega arith)))
  where
    on_axis : (base size start len : ℕ) → base < start + len → start < base + size → start + len < 2 ^ 64
        → (max start base - base) + (min (start + len) (base + size) - max start base) < 2 ^ 64
    on_axis base size start len h l end = omega arith

pub region_region : (shape numbers starts lengths : List ℕ) → Touches shape numbers starts lengths → EndBelow starts lengths
    → IsRegion (starts_in_region shape numbers starts) (part_lengths shape numbers starts lengths)
region_region [] [] [] [] r ends = no_ranges
region_region [] [] [] (len ∷ lengths) r ends = absurd r
region_region [] [] (start ∷ starts) lengths r ends = absurd r
region_region [] (number ∷ numbers) starts lengths r ends = absurd r
region_region (size ∷ shape) [] starts lengths r ends = absurd r
region_region (size ∷ shape) (number ∷ numbers) [] lengths r ends = absurd r
region_region (size ∷ shape) (number ∷ numbers) (start ∷ starts) [] r ends = absurd r
region_region (size ∷ shape) (number ∷ numbers) (start ∷ starts) (len ∷ lengths) r ends =
    range_more _ _ _ _ (on_axis (number * size) size start len r.0 r.1 (ends 0 (omega arith)))
    (region_region shape numbers starts lengths r.2 (λ axis l. ends (suc axis) (omega arith)))
  where
    on_axis : (base size start len : ℕ) → base < start + len → start < base + size → start + len < 2 ^ 64
        → (max start base - start) + (min (start + len) (base + size) - max start base) < 2 ^ 64
    on_axis base size start len h l end = omega arith

-- ---- what makes a part

-- along this axis the chunk begins before the range ends, and ends behind where it begins
abbrev Common : List ℕ → List ℕ → List ℕ → List ℕ → ℕ → Type 0
Common shape numbers starts lengths axis =
    (get_or numbers axis 0 * get_or shape axis 0 < get_or starts axis 0 + get_or lengths axis 0)
    × (get_or starts axis 0 < get_or numbers axis 0 * get_or shape axis 0 + get_or shape axis 0)

common_at : (shape numbers starts lengths : List ℕ) → Touches shape numbers starts lengths
    → (axis : ℕ) → axis < length shape → Common shape numbers starts lengths axis
common_at [] numbers starts lengths r = λ axis l. absurd (omega arith)
common_at (size ∷ shape) [] starts lengths r = absurd r
common_at (size ∷ shape) (number ∷ numbers) [] lengths r = absurd r
common_at (size ∷ shape) (number ∷ numbers) (start ∷ starts) [] r = absurd r
common_at (size ∷ shape) (number ∷ numbers) (start ∷ starts) (len ∷ lengths) r =
    let rest = common_at shape numbers starts lengths r.2 in
    λ axis. elim axis as (λ k. k < length (size ∷ shape) → Common (size ∷ shape) (number ∷ numbers) (start ∷ starts) (len ∷ lengths) k) [
      | zero ↦ (λ l. (r.0, r.1))
      | suc k ↦ (λ l. rest k (omega arith))
    ]

pub record IsReady (shape numbers starts lengths : List ℕ) : Type 0 where
  pub meet : MeetByAxis shape numbers starts lengths
  pub fits : (axis : ℕ) → axis < length shape → get_or numbers axis 0 * get_or shape axis 0 < 2 ^ 64
  pub chunk : IsRegion (starts_in_chunk shape numbers starts) (part_lengths shape numbers starts lengths)
  pub region : IsRegion (starts_in_region shape numbers starts) (part_lengths shape numbers starts lengths)

ready : (shape numbers starts lengths : List ℕ) → Touches shape numbers starts lengths → length starts ≡ length shape
    → length lengths ≡ length shape → EndBelow starts lengths → IsReady shape numbers starts lengths
ready shape numbers starts lengths r e f ends =
    let common = common_at shape numbers starts lengths r in
    let below : (axis : ℕ) → axis < length shape → get_or starts axis 0 + get_or lengths axis 0 < 2 ^ 64 = λ axis l. ends axis (omega (arith, e, l)) in
    record {
      meet = record {
        axes = Touches-length shape numbers starts lengths r;
        starts_axes = e;
        lengths_axes = f;
        ends = below;
        begins = λ axis l. (common axis l).0;
        reaches = λ axis l. (common axis l).1;
      };
      fits = λ axis l. let begins = (common axis l).0 in let end = below axis l in omega (arith, begins, end);
      chunk = chunk_region shape numbers starts lengths r ends;
      region = region_region shape numbers starts lengths r ends;
    }

-- the same of slices that have these numbers
pub ready_at : (region : Region) {shape sizes numbers chunk starts lengths : List ℕ} → sizes ≡ shape → chunk ≡ numbers
    → starts ≡ region.starts → lengths ≡ region.lengths → All (λ size. 0 < size) sizes → length region.starts ≡ length shape
    → length region.starts ≡ length region.lengths → EndBelow region.starts region.lengths → Contains (touched_chunks shape region) numbers
    → IsReady sizes chunk starts lengths
ready_at region {shape} {sizes} {numbers} p n s l positive axes same ends c =
    let g : FitsGrid shape region = record { positive = subst (All (λ size. 0 < size)) p positive; starts = axes; lengths = sym same ∙ axes } in
    rw (p, n, s, l) (ready shape numbers region.starts region.lengths (listed_touches shape region numbers g c) g.starts g.lengths ends)
