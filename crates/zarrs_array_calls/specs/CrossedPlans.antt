-- Plans as they cross to C: in three buffers.
use Rattle.std.specs.Prelude.{◌≡◌, ◌⊎◌, ℕ, ◌-◌, ◌&&◌, nat_le, if◌then◌else◌, Bool, List, ◌++◌, length, string_bytes, Result, Ok}
use Rattle.std.specs.List.{flat_map}
use Rattle.zarrs_array_bytes.specs.Pieces.{bytes_with_offsets}
use Rattle.zarrs_array_bytes.specs.Update.{with_items_at}
use Rattle.zarrs_chunk.specs.Answer.{◌>>=◌}
use Rattle.zarrs_chunk.specs.Region.{Region}
use Rattle.zarrs_grid.specs.Parts.{starts_in_chunk, starts_in_region, part_lengths}
use Rattle.zarrs_grid.specs.Touched.{touched_chunks}
use Rattle.zarrs_grid.specs.declared.chunk_part.ChunkPart.{ChunkPart}
use Rattle.zarrs_array_plan.specs.ArrayForm.{ArrayForm}
use Rattle.zarrs_array_plan.specs.ChunkKeys.{key_of}
use Rattle.zarrs_array_plan.specs.Planned.{checked_plan}
use Rattle.zarrs_array_plan.specs.declared.planned_chunk.PlannedChunk.{PlannedChunk}
use Rattle.zarrs_array_calls.specs.ArraysGiven.{array_given, region_given}
use Rattle.zarrs_array_calls.specs.Refusals.{grid_answer, RefusesWith}
use Rattle.zarrs_array_calls.specs.declared.crossed.CrossedPlan.{CrossedPlan}
use Rattle.zarrs_array_calls.specs.declared.refusal.ArrayRefusal.{ArrayRefusal}
use Rattle.zarrs_array_calls.specs.declared.sizes.PlanSizes.{PlanSizes}

-- ---- plans

-- The bytes of all chunks' keys, joined; offsets, where each key begins and where the last one ends; and the numbers of all chunks' parts, joined.
pub record PlanLists : Type 0 where
  pub keys : List ℕ
  pub offsets : List ℕ
  pub numbers : List ℕ

-- these keys, offsets and numbers
abbrev pub plan_lists : List ℕ → List ℕ → List ℕ → PlanLists
plan_lists keys offsets numbers = record { keys = keys; offsets = offsets; numbers = numbers }

-- the numbers of a region's part in the chunk of these indices: the indices, where the part begins in the chunk, how long it is, and where it begins in the region
abbrev pub part_numbers : List ℕ → Region → List ℕ → List ℕ
part_numbers shape region chunk =
    chunk ++ (starts_in_chunk shape chunk region.starts
    ++ (part_lengths shape chunk region.starts region.lengths ++ starts_in_region shape chunk region.starts))

-- what a plan of a region crosses as: for each chunk that the region touches, in row-major order of the chunks, its key and the numbers of its part
abbrev pub plan_of : ArrayForm → Region → PlanLists
plan_of form region =
    let chunks = touched_chunks form.chunk_shape region in
    let keys = bytes_with_offsets (key_of form.keys) chunks in
    plan_lists keys.0 keys.1 (flat_map (part_numbers form.chunk_shape region) chunks)

-- the plan of a region of an array, which are given as numbers, or the first error: of the array; of the region's form; it lies inside the array, and 64 bits count its elements
abbrev pub array_plan : List ℕ → List ℕ → ℕ → ℕ → List ℕ → Result PlanLists ArrayRefusal
array_plan shape sizes encoding separator numbers = do
  form ← array_given shape sizes encoding separator
  region ← region_given numbers
  _ ← grid_answer (checked_plan form region)
  Ok (plan_of form region)

-- ---- what the library plans

-- the numbers of a part that is planned
abbrev pub numbers_of_part : ChunkPart → List ℕ
numbers_of_part part = part.chunk.items ++ (part.in_chunk.starts ++ (part.in_region.lengths ++ part.in_region.starts))

-- what planned chunks cross as
abbrev pub crossed_chunks : List PlannedChunk → PlanLists
crossed_chunks planned =
    let keys = bytes_with_offsets (λ (it : PlannedChunk). string_bytes it.key) planned in plan_lists keys.0 keys.1 (flat_map (λ (it : PlannedChunk). numbers_of_part it.part) planned)

-- the lists that a plan was made into
abbrev pub lists_in : CrossedPlan → PlanLists
lists_in plan = plan_lists plan.keys.items plan.offsets.items plan.numbers.items

-- ---- what a call leaves

-- how many chunks, and how many items of each list
abbrev pub plan_sizes : PlanLists → PlanSizes
plan_sizes plan = record {
  chunks = length plan.offsets - 1;
  keys = length plan.keys;
  offsets = length plan.offsets;
  numbers = length plan.numbers;
}

-- the caller's buffers have room for the plan
abbrev pub has_plan_room : PlanLists → PlanLists → Bool
has_plan_room old plan =
    nat_le (length plan.keys) (length old.keys) && nat_le (length plan.offsets) (length old.offsets) && nat_le (length plan.numbers) (length old.numbers)

-- the caller's buffers with the plan in front of what they had
abbrev pub with_plan : PlanLists → PlanLists → PlanLists
with_plan old plan =
    plan_lists (with_items_at old.keys 0 plan.keys) (with_items_at old.offsets 0 plan.offsets) (with_items_at old.numbers 0 plan.numbers)

-- The call returns a plan: it is at the front of the buffers, and the code is 0; or a buffer is too short and all stay as they were, and the code is 1. The numbers of chunks and of items are returned in either case.
pub record ToldChunks (plan : PlanLists) (code : ℕ) (old new : PlanLists) (needed : PlanSizes) : Type 0 where
  pub code_is : code ≡ (if has_plan_room old plan then 0 else 1)
  pub buffers_are : new ≡ (if has_plan_room old plan then with_plan old plan else old)
  pub needed_is : needed ≡ plan_sizes plan

-- The call returns the plan that is due; or it fails, and leaves the buffers and the counts as they were.
abbrev pub TellsChunks : Result PlanLists ArrayRefusal → ℕ → PlanLists → PlanLists → PlanSizes → PlanSizes → Type 0
TellsChunks expected code old new needed_old needed_new =
    ((plan : PlanLists) × (expected ≡ Ok plan) × ToldChunks plan code old new needed_new)
    ⊎ (RefusesWith expected code × (new ≡ old) × (needed_new ≡ needed_old))
