-- What is planned of a region of an array: its part in each chunk that it touches, and the chunk's key.
use Rattle.std.specs.Prelude.{◌≡◌, ◌<◌, ◌^◌, ℕ, true, List, All, map, string_bytes, Result}
use Rattle.zarrs_chunk.specs.Answer.{◌>>=◌, checked_u64}
use Rattle.zarrs_chunk.specs.ChunkShape.{product}
use Rattle.zarrs_chunk.specs.Region.{Region, IsRegion}
use Rattle.zarrs_chunk.specs.Selection.{subset, bounds_of}
use Rattle.zarrs_chunk.specs.Tuples.{is_box_inside}
use Rattle.zarrs_chunk.specs.declared.codec_error.CodecError.{CodecError}
use Rattle.zarrs_grid.specs.RegionParts.{AreRegionParts}
use Rattle.zarrs_grid.specs.Touched.{FitsGrid}
use Rattle.zarrs_array_plan.specs.ArrayForm.{ArrayForm}
use Rattle.zarrs_array_plan.specs.ChunkKeys.{key_of}
use Rattle.zarrs_array_plan.specs.declared.chunk_key_encoding.ChunkKeyEncoding.{ChunkKeyEncoding}
use Rattle.zarrs_array_plan.specs.declared.planned_chunk.PlannedChunk.{PlannedChunk}

-- The region lies inside the array, whose chunks have as many axes, and 64 bits count its elements.
pub record LiesInArray (form : ArrayForm) (region : Region) : Type 0 where
  pub grid : FitsGrid form.chunk_shape region
  pub ends : IsRegion region.starts region.lengths
  pub inside : is_box_inside form.shape region.starts region.lengths ≡ true
  pub counted : product region.lengths < 2 ^ 64

-- how many elements a region has, or the first error: it lies inside the array, and 64 bits count them
abbrev pub checked_plan : ArrayForm → Region → Result ℕ CodecError
checked_plan form region = do
  _ ← bounds_of (subset region) form.shape
  checked_u64 (product region.lengths)

-- the key is that of the part's chunk
abbrev pub HasOwnKey : ChunkKeyEncoding → PlannedChunk → Type 0
HasOwnKey keys it = string_bytes it.key ≡ key_of keys it.part.chunk.items

-- For each chunk that the region touches, in row-major order of the chunks, the region's part in it is there, with the chunk's key.
pub record IsRegionPlan (form : ArrayForm) (region : Region) (planned : List PlannedChunk) : Type 0 where
  pub parts : AreRegionParts form.chunk_shape region (map (λ it. it.part) planned)
  pub keys : All (HasOwnKey form.keys) planned
