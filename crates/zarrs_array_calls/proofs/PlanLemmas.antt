-- Plans as they cross.
use Rattle.std.proofs.Common.{◌≡◌, ◌∙◌, ℕ, ◌+◌, ◌<◌, Ok, Err, Result, IsOkAnd, List, [], ◌∷◌, ◌++◌, length, map, take, get_or, arith, refl, ap, ap₂, sym, string_bytes, append-nil, length-append}
use Rattle.std.specs.List.{All, concat, flat_map}
use Rattle.std.proofs.lemmas.List.{take_more, map-append}
use Rattle.std.proofs.lemmas.List.Concat.{flat_map-append}
use Rattle.std.proofs.lemmas.List.Elements.{All-head, All-tail}
use Rattle.std.proofs.lemmas.Simd.{map-map}
use Rattle.zarrs_chunk.specs.Answer.{◌>>=◌}
use Rattle.zarrs_chunk.specs.Region.{Region}
use Rattle.zarrs_chunk.specs.declared.codec_error.CodecError.{CodecError}
use Rattle.zarrs_array_bytes.specs.Pieces.{ends}
use Rattle.zarrs_array_bytes.proofs.OffsetLemmas.{flat_map-concat, ends-append}
use Rattle.zarrs_grid.specs.Parts.{IsChunkPart}
use Rattle.zarrs_grid.specs.Touched.{touched_chunks}
use Rattle.zarrs_grid.specs.declared.chunk_part.ChunkPart.{ChunkPart}
use Rattle.zarrs_array_plan.specs.ArrayForm.{ArrayForm}
use Rattle.zarrs_array_plan.specs.ChunkKeys.{key_of}
use Rattle.zarrs_array_plan.specs.Planned.{checked_plan, IsRegionPlan}
use Rattle.zarrs_array_plan.specs.declared.planned_chunk.PlannedChunk.{PlannedChunk}
use Rattle.zarrs_array_calls.specs.ArraysGiven.{array_given, region_given}
use Rattle.zarrs_array_calls.specs.CrossedPlans.{plan_lists, part_numbers, plan_of, array_plan, numbers_of_part, crossed_chunks}
use Rattle.zarrs_array_calls.specs.Refusals.{grid_answer}

-- ---- a chunk more

pub joined_more : {X : Type 0} (f : X → List ℕ) (xs : List X) (i : ℕ) (x : X) → i < length xs → x ≡ get_or xs i x
    → flat_map f (take (i + 1) xs) ≡ flat_map f (take i xs) ++ f x
joined_more f xs i x l is =
    ap (flat_map f) (take_more xs i x l) ∙ flat_map-append f (take i xs) (get_or xs i x ∷ [])
    ∙ ap (λ ys. flat_map f (take i xs) ++ ys) (append-nil (f (get_or xs i x)) ∙ ap f (sym is))

pub ends_more : {X : Type 0} (f : X → List ℕ) (xs : List X) (i : ℕ) (x : X) → i < length xs → x ≡ get_or xs i x
    → ends 0 (map f (take (i + 1) xs)) ≡ ends 0 (map f (take i xs)) ++ length (flat_map f (take (i + 1) xs)) ∷ []
ends_more f xs i x l is =
    let so_far = map f (take i xs) in
    let long : length (flat_map f (take (i + 1) xs)) ≡ 0 + length (concat so_far) + length (f x) =
    ap length (joined_more f xs i x l is ∙ ap (λ ys. ys ++ f x) (flat_map-concat f (take i xs))) ∙ length-append (concat so_far) (f x) ∙ omega arith in
    ap (λ ys. ends 0 (map f ys)) (take_more xs i x l) ∙ ap (ends 0) (map-append f (take i xs) (get_or xs i x ∷ []))
    ∙ ap (λ y. ends 0 (so_far ++ f y ∷ [])) (sym is)
    ∙ ends-append 0 so_far (f x ∷ []) ∙ ap (λ n. ends 0 so_far ++ n ∷ []) (sym long)

-- ---- all chunks

pub map_by : {X Y : Type 0} (f g : X → Y) (xs : List X) → All (λ x. f x ≡ g x) xs → map f xs ≡ map g xs
map_by f g [] h = refl
map_by f g (x ∷ xs) h = ap₂ (λ y ys. y ∷ ys) (All-head (λ x. f x ≡ g x) x xs h) (map_by f g xs (All-tail (λ x. f x ≡ g x) x xs h))

joined_by : {X Y : Type 0} (f : X → List ℕ) (g : Y → List ℕ) (xs : List X) (ys : List Y) → map f xs ≡ map g ys → flat_map f xs ≡ flat_map g ys
joined_by f g xs ys e = flat_map-concat f xs ∙ ap concat e ∙ sym (flat_map-concat g ys)

same_plan : {a b c d e f : List ℕ} → a ≡ b → c ≡ d → e ≡ f → plan_lists a c e ≡ plan_lists b d f
same_plan p q r = λ k. plan_lists (p k) (q k) (r k)

module _ (form : ArrayForm) (region : Region) (planned : List PlannedChunk) (plan : IsRegionPlan form region planned) where
  abbrev parts : List ChunkPart
  parts = map (λ (it : PlannedChunk). it.part) planned

  abbrev chunks : List (List ℕ)
  chunks = touched_chunks form.chunk_shape region

  keys_are : map (λ (it : PlannedChunk). string_bytes it.key) planned ≡ map (key_of form.keys) chunks
  keys_are =
      map_by (λ (it : PlannedChunk). string_bytes it.key) (λ (it : PlannedChunk). key_of form.keys it.part.chunk.items) planned plan.keys
      ∙ sym (map-map (λ (part : ChunkPart). key_of form.keys part.chunk.items) (λ (it : PlannedChunk). it.part) planned)
      ∙ sym (map-map (key_of form.keys) (λ (part : ChunkPart). part.chunk.items) parts)
      ∙ ap (map (key_of form.keys)) plan.parts.chunks

  part_is : (part : ChunkPart) → IsChunkPart form.chunk_shape region part.chunk.items part
      → numbers_of_part part ≡ part_numbers form.chunk_shape region part.chunk.items
  part_is part is =
      ap₂ (λ (a b : Region). part.chunk.items ++ (a.starts ++ (b.lengths ++ b.starts))) is.in_chunk is.in_region

  numbers_are : map (λ (it : PlannedChunk). numbers_of_part it.part) planned ≡ map (part_numbers form.chunk_shape region) chunks
  numbers_are =
      sym (map-map numbers_of_part (λ (it : PlannedChunk). it.part) planned)
      ∙ map_by numbers_of_part (λ (part : ChunkPart). part_numbers form.chunk_shape region part.chunk.items) parts
      (λ k d l. part_is (get_or parts k d) (plan.parts.each k d l))
      ∙ sym (map-map (part_numbers form.chunk_shape region) (λ (part : ChunkPart). part.chunk.items) parts)
      ∙ ap (map (part_numbers form.chunk_shape region)) plan.parts.chunks

  -- what planned chunks cross as is the plan that is due
  pub plan_crosses : crossed_chunks planned ≡ plan_of form region
  plan_crosses =
      same_plan (joined_by (λ (it : PlannedChunk). string_bytes it.key) (key_of form.keys) planned chunks keys_are)
      (ap (λ ks. 0 ∷ ends 0 ks) keys_are)
      (joined_by (λ (it : PlannedChunk). numbers_of_part it.part) (part_numbers form.chunk_shape region) planned chunks numbers_are)

-- ---- the plan of what is given

plan_by : (form : ArrayForm) (region : Region) (planned : List PlannedChunk) (counted : Result ℕ CodecError)
    → IsOkAnd counted (λ _. IsRegionPlan form region planned)
    → (grid_answer counted >>= λ _. Ok (plan_of form region)) ≡ Ok (crossed_chunks planned)
plan_by form region planned (Ok n) plan = ap Ok (sym (plan_crosses form region planned plan))
plan_by form region planned (Err e) plan = absurd plan

pub plan_due : (shape sizes : List ℕ) (encoding separator : ℕ) (numbers : List ℕ) (form : ArrayForm) (region : Region) (planned : List PlannedChunk)
    → array_given shape sizes encoding separator ≡ Ok form → region_given numbers ≡ Ok region
    → IsOkAnd (checked_plan form region) (λ _. IsRegionPlan form region planned)
    → array_plan shape sizes encoding separator numbers ≡ Ok (crossed_chunks planned)
plan_due shape sizes encoding separator numbers form region planned a b plan =
    rw (a, b) (plan_by form region planned (checked_plan form region) plan)
