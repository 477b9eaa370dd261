-- The parts of a region, chunk by chunk.
use Rattle.std.specs.Prelude.{◌≡◌, ℕ, List, map, All, Result}
use Rattle.zarrs_chunk.specs.Answer.{◌>>=◌, checked_u64}
use Rattle.zarrs_chunk.specs.ChunkShape.{product}
use Rattle.zarrs_chunk.specs.Region.{Region}
use Rattle.zarrs_chunk.specs.declared.codec_error.CodecError.{CodecError}
use Rattle.zarrs_grid.specs.Parts.{IsChunkPart}
use Rattle.zarrs_grid.specs.Touched.{touched_chunks, checked_touched}
use Rattle.zarrs_grid.specs.declared.chunk_part.ChunkPart.{ChunkPart}

-- There is a part for each chunk that the region touches, in row-major order of the chunks, and it is the region's part in that chunk.
pub record AreRegionParts (shape : List ℕ) (region : Region) (parts : List ChunkPart) : Type 0 where
  pub chunks : map (λ part. part.chunk.items) parts ≡ touched_chunks shape region
  pub each : All (λ part. IsChunkPart shape region part.chunk.items part) parts

-- how many chunks the region touches, or the first error: it has a range for each axis of the chunks, and 64 bits count them
abbrev pub checked_chunk_count : List ℕ → Region → Result ℕ CodecError
checked_chunk_count shape region = checked_touched shape region >>= λ chunks. checked_u64 (product chunks.lengths)
