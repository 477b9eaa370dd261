-- A plan of a region cuts it.
use Rattle.std.specs.Prelude.{◌≡◌, ◌≢◌, ℕ, true, List, All, AllPairs, Contains, string_bytes}
use Rattle.zarrs_chunk.specs.Indices.{indices_behind}
use Rattle.zarrs_chunk.specs.Region.{Region}
use Rattle.zarrs_chunk.specs.Tuples.{is_tuple_inside}
use Rattle.zarrs_grid.specs.GridLaws.{IsPartOfBoth}
use Rattle.zarrs_array_plan.specs.ArrayForm.{ArrayForm}
use Rattle.zarrs_array_plan.specs.Joined.{IsRegionPart}
use Rattle.zarrs_array_plan.specs.Planned.{LiesInArray, IsRegionPlan}
use Rattle.zarrs_array_plan.specs.declared.planned_chunk.PlannedChunk.{PlannedChunk}

-- the part has this index tuple of the region, so far from where the part begins; tuples of a region are counted from its first one
abbrev pub HasTuple : PlannedChunk → List ℕ → Type 0
HasTuple it tuple =
    (offset : List ℕ) × (is_tuple_inside it.part.in_region.lengths offset ≡ true) × (indices_behind it.part.in_region.starts offset ≡ tuple)

-- Each part is the region's in one of the chunks that it touches: a box of the chunk and one of the region, with the same elements. Each index tuple of the region is in a part, and in that of one chunk alone. No two chunks share a key, so none is planned twice.
pub record CutsRegion (form : ArrayForm) (region : Region) (planned : List PlannedChunk) : Type 0 where
  pub parts : All (λ it. IsRegionPart form.chunk_shape region it.part) planned
  pub both : All (λ it. IsPartOfBoth form.chunk_shape region it.part.chunk.items) planned
  pub some : (tuple : List ℕ) → is_tuple_inside region.lengths tuple ≡ true → (it : PlannedChunk) × Contains planned it × HasTuple it tuple
  pub one : (tuple : List ℕ) (it other : PlannedChunk) → Contains planned it → Contains planned other → HasTuple it tuple
      → HasTuple other tuple → it.part.chunk.items ≡ other.part.chunk.items
  pub keys : AllPairs (λ it other. string_bytes it.key ≢ string_bytes other.key) planned

-- A plan of a region that lies in the array cuts it.
abbrev pub PlansCutTheRegion : Type 0
PlansCutTheRegion =
    (form : ArrayForm) (region : Region) (planned : List PlannedChunk) → LiesInArray form region → IsRegionPlan form region planned
    → CutsRegion form region planned
