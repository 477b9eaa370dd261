-- Regions that lie in an array, and their parts with keys.
use Rattle.std.proofs.Common.{◌≡◌, ◌∙◌, ℕ, zero, suc, ◌+◌, ◌*◌, ◌<◌, ◌≤◌, ◌^◌, ◌==◌, Bool, true, false, if◌then◌else◌, Ok, Err, Result, List, [], ◌∷◌, ◌++◌, length, map, arith, refl, ap, subst, eq-eqb, nat_lt, IsOkAnd}
use Rattle.std.specs.List.{All}
use Rattle.std.proofs.Math.Nat.{add-mul-div_right, mul-le-mul}
use Rattle.std.proofs.lemmas.List.{map-append}
use Rattle.std.proofs.lemmas.List.Elements.{All-head, All-tail}
use Rattle.zarrs_chunk.specs.Answer.{demand, checked_u64, AnswersBy, memory, no_refusal}
use Rattle.zarrs_chunk.specs.ChunkShape.{product}
use Rattle.zarrs_chunk.specs.Region.{Region, IsRegion}
use Rattle.zarrs_chunk.specs.Selection.{subset, bounds_of}
use Rattle.zarrs_chunk.specs.Tuples.{is_box_inside}
use Rattle.zarrs_chunk.specs.declared.codec_error.CodecError.{CodecError}
use Rattle.zarrs_chunk.specs.declared.codec_error.CodecError.TheVariants.{IncompatibleDimensionality, OutOfBounds, Overflow}
use Rattle.zarrs_chunk.proofs.Inside.{lt_test, from_lt_test, is_box_inside-lengths}
use Rattle.zarrs_array_bytes.proofs.ValidLemmas.{both_ok, demand_ok}
use Rattle.zarrs_grid.specs.RegionParts.{checked_chunk_count}
use Rattle.zarrs_grid.specs.Touched.{FitsGrid, touched_count, touched_counts}
use Rattle.zarrs_grid.specs.declared.chunk_part.ChunkPart.{ChunkPart}
use Rattle.zarrs_grid.proofs.OneAxis.{quotient_le}
use Rattle.zarrs_array_plan.specs.ArrayForm.{ArrayForm, IsArrayForm}
use Rattle.zarrs_array_plan.specs.Planned.{LiesInArray}
use Rattle.zarrs_array_plan.specs.declared.planned_chunk.PlannedChunk.{PlannedChunk}

-- ---- a region touches no more chunks than it has elements

touched_le : (size start len : ℕ) → 0 < size → touched_count size start len ≤ len
touched_le size start zero p = omega arith
touched_le size start (suc more) p =
    let wide : more * 1 ≤ more * size = mul-le-mul {n₁ = more} {m₁ = 1} {n₂ = more} {m₂ = size} (omega arith) p in
    let further = quotient_le size (start + more) (start + more * size) p (omega (arith, wide)) in
    let there = add-mul-div_right start more p in
    omega (arith, further, there)

product_le : (shape starts lengths : List ℕ) → All (λ size. 0 < size) shape → length starts ≡ length shape → length lengths ≡ length shape
    → product (touched_counts shape starts lengths) ≤ product lengths
product_le [] [] [] p e f = omega arith
product_le [] [] (len ∷ lengths) p e f = absurd (omega arith)
product_le [] (start ∷ starts) lengths p e f = absurd (omega arith)
product_le (size ∷ shape) [] lengths p e f = absurd (omega arith)
product_le (size ∷ shape) (start ∷ starts) [] p e f = absurd (omega arith)
product_le (size ∷ shape) (start ∷ starts) (len ∷ lengths) p e f =
    mul-le-mul (touched_le size start len (All-head (λ size. 0 < size) size shape p))
    (product_le shape starts lengths (All-tail (λ size. 0 < size) size shape p) (omega arith) (omega arith))

-- so 64 bits count them
pub chunks_counted : (shape : List ℕ) (region : Region) → FitsGrid shape region → product region.lengths < 2 ^ 64
    → checked_chunk_count shape region ≡ Ok (product (touched_counts shape region.starts region.lengths))
chunks_counted shape region g l =
    let below = product_le shape region.starts region.lengths g.positive g.starts g.lengths in
    rw (eq-eqb (length region.starts) (length shape) g.starts, lt_test (product (touched_counts shape region.starts region.lengths)) (2 ^ 64) (omega (arith, below, l))) refl

-- ---- a region that passes the checks

counted_by : (b : Bool) (n k : ℕ) → (if b then Ok n else Err Overflow) ≡ Ok k → b ≡ true
counted_by true n k e = refl
counted_by false n k e = absurd (cc)

pub lies_in : (form : ArrayForm) (region : Region) {sizes chunks : List ℕ} {count : ℕ} → sizes ≡ form.shape → chunks ≡ form.chunk_shape
    → IsArrayForm form.shape chunks → IsRegion region.starts region.lengths → bounds_of (subset region) sizes ≡ Ok tt
    → checked_u64 (product region.lengths) ≡ Ok count → LiesInArray form region
lies_in form region {sizes} {chunks} {count} s c is ends bounds number =
    let within = both_ok (demand (length region.starts == length sizes) IncompatibleDimensionality)
    (demand (is_box_inside sizes region.starts region.lengths) OutOfBounds) bounds in
    let inside : is_box_inside form.shape region.starts region.lengths ≡ true =
    subst (λ (ns : List ℕ). is_box_inside ns region.starts region.lengths ≡ true) s
    (demand_ok (is_box_inside sizes region.starts region.lengths) OutOfBounds within.1) in
    let axes = is_box_inside-lengths form.shape region.starts region.lengths inside in
    let same = is.axes ∙ ap (λ (ns : List ℕ). length ns) c in
    record {
      grid = record {
        positive = subst (All (λ size. 0 < size)) c is.positive;
        starts = axes.0 ∙ same;
        lengths = axes.1 ∙ same;
      };
      ends = ends;
      inside = inside;
      counted = from_lt_test (product region.lengths) (2 ^ 64) (counted_by (nat_lt (product region.lengths) (2 ^ 64)) (product region.lengths) count number);
    }

-- where the chunks are counted, no error is due
passed_by : {T : Type 0} (Q : T → Type 0) (r : Result T CodecError) (expected : Result ℕ CodecError) (n : ℕ) → expected ≡ Ok n
    → AnswersBy memory (λ it _. Q it) r expected → AnswersBy memory (λ it _. Q it) r (no_refusal {E = CodecError})
passed_by Q (Ok it) expected n e answers = subst (λ (x : Result ℕ CodecError). IsOkAnd x (λ _. Q it)) e answers
passed_by Q (Err error) expected n e answers = λ ne. let never : ⊥ = cc (answers ne) in absurd never

pub parts_given : {T : Type 0} (Q : T → Type 0) (r : Result T CodecError) (shape : List ℕ) (region : Region) → FitsGrid shape region
    → product region.lengths < 2 ^ 64 → AnswersBy memory (λ it _. Q it) r (checked_chunk_count shape region)
    → AnswersBy memory (λ it _. Q it) r (no_refusal {E = CodecError})
parts_given Q r shape region g l answers =
    passed_by Q r (checked_chunk_count shape region) (product (touched_counts shape region.starts region.lengths)) (chunks_counted shape region g l) answers

-- ---- parts with keys

-- a part more
pub parts_more : (planned : List PlannedChunk) (parts : List ChunkPart) (it : PlannedChunk) → map (λ (x : PlannedChunk). x.part) planned ≡ parts
    → map (λ (x : PlannedChunk). x.part) (planned ++ it ∷ []) ≡ parts ++ it.part ∷ []
parts_more planned parts it done =
    map-append (λ (x : PlannedChunk). x.part) planned (it ∷ []) ∙ ap (λ (xs : List ChunkPart). xs ++ it.part ∷ []) done
