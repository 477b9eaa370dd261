-- Laws of how many bytes a cache has.
use Rattle.std.specs.Prelude.{◌≡◌, ℕ, ◌-◌, ◌*◌, ◌^◌, min, Some, length}
use Rattle.zarrs_data_type.specs.Element.{Chunk}
use Rattle.zarrs_data_type.specs.ElementType.{ElementType}
use Rattle.zarrs_array_bytes.specs.Laws.{bytes_each}
use Rattle.zarrs_codecs.specs.ChunkSource.{chunk_below, IsSizeOf}

-- A cache of a chunk whose elements all take as many bytes has these bytes and no others, as far as they are counted.
abbrev pub ChunkSizesAreExact : Type 0
ChunkSizesAreExact =
    (type : ElementType) (each size : ℕ) (chunk : Chunk) → bytes_each type ≡ Some each → IsSizeOf type (chunk_below (Some chunk)) size → size ≡ min (length chunk * each) (2 ^ 64 - 1)
