-- The elements of a region in one container, put together part by part, and cut into parts.
use Rattle.std.specs.Prelude.{◌≡◌, ◌<◌, ◌^◌, ℕ, List, [], ◌∷◌, Contains, Result, Ok, IfOk}
use Rattle.zarrs_array_bytes.specs.Chunks.{fill_chunk}
use Rattle.zarrs_array_bytes.specs.Elements.{elements}
use Rattle.zarrs_array_bytes.specs.Held.{Held}
use Rattle.zarrs_array_bytes.specs.Validity.{Holds, validity}
use Rattle.zarrs_chunk.specs.Answer.{◌>>=◌, checked_u64, no_refusal, GivesBy}
use Rattle.zarrs_chunk.specs.ChunkShape.{product}
use Rattle.zarrs_chunk.specs.Region.{Region}
use Rattle.zarrs_chunk.specs.declared.codec_error.CodecError.{CodecError}
use Rattle.zarrs_data_type.specs.Element.{Chunk, Element, absent}
use Rattle.zarrs_data_type.specs.ElementType.{ElementType}
use Rattle.zarrs_grid.specs.JoinedParts.{HasChunks}
use Rattle.zarrs_grid.specs.Parts.{IsChunkPart}
use Rattle.zarrs_grid.specs.RegionElements.{elements_of_part, region_elements}
use Rattle.zarrs_grid.specs.RegionWrites.{new_of_part}
use Rattle.zarrs_grid.specs.Touched.{FitsGrid, touched_chunks}
use Rattle.zarrs_grid.specs.declared.chunk_part.ChunkPart.{ChunkPart}

-- a fill element for each element of a region, or the first error
abbrev pub region_fill : ElementType → Region → List ℕ → Result Chunk CodecError
region_fill type region fill = do
  count ← checked_u64 (product region.lengths)
  fill_chunk type count fill

-- It is a region's part in one of the chunks that the region touches. 64 bits count the region's elements.
pub record IsRegionPart (chunk_shape : List ℕ) (region : Region) (part : ChunkPart) : Type 0 where
  pub grid : FitsGrid chunk_shape region
  pub counted : product region.lengths < 2 ^ 64
  pub touched : Contains (touched_chunks chunk_shape region) part.chunk.items
  pub is : IsChunkPart chunk_shape region part.chunk.items part

-- The container has an element of the type for each element of a region, and those of these chunks are the array's. At other places anything may stand.
pub record HoldsChunks (type : ElementType) (element : List ℕ → Element) (chunk_shape : List ℕ) (region : Region) (chunks : List (List ℕ)) (held : Held) : Type 0 where
  pub valid : validity type (product region.lengths) held ≡ Ok tt
  pub has : HasChunks element chunk_shape region chunks (elements type (product region.lengths) held)

-- a container of a region's elements is given, none of which has to be the array's yet
abbrev pub BeginsRegion : ElementType → Region → Result Held CodecError → Type 0
BeginsRegion type region result =
    (element : List ℕ → Element) (chunk_shape : List ℕ) → IfOk result (HoldsChunks type element chunk_shape region [])

-- Of a container that holds a region's elements of some chunks, and one of the array's elements in a part, one is given that holds those of the part's chunk too; but for a lack of memory no error is due.
abbrev pub JoinsPart : ElementType → Region → ChunkPart → Held → Held → Result Held CodecError → Type 0
JoinsPart type region part answer content result =
    let numbers = part.chunk.items in
    (element : List ℕ → Element) (chunk_shape : List ℕ) (chunks : List (List ℕ)) → IsRegionPart chunk_shape region part
    → HoldsChunks type element chunk_shape region chunks answer
    → Holds type content (elements_of_part element chunk_shape region numbers)
    → GivesBy (λ joined _. HoldsChunks type element chunk_shape region (numbers ∷ chunks) joined) result no_refusal

-- Of a container of a region's new elements one is given that holds those of a part, in order; but for a lack of memory no error is due.
abbrev pub CutsPart : ElementType → Region → ChunkPart → Held → Result Held CodecError → Type 0
CutsPart type region part new result =
    let count = product region.lengths in
    (chunk_shape : List ℕ) → IsRegionPart chunk_shape region part → validity type count new ≡ Ok tt
    → GivesBy (Holds type) result (Ok (new_of_part chunk_shape region part.chunk.items (elements type count new) absent))

-- A container that holds a region's elements of all chunks that the region touches holds the region's elements, in order.
abbrev pub AllChunksMakeTheRegion : Type 0
AllChunksMakeTheRegion =
    (type : ElementType) (element : List ℕ → Element) (chunk_shape : List ℕ) (region : Region) (chunks : List (List ℕ)) (held : Held)
    → FitsGrid chunk_shape region
    → ((numbers : List ℕ) → Contains (touched_chunks chunk_shape region) numbers → Contains chunks numbers)
    → HoldsChunks type element chunk_shape region chunks held
    → Holds type held (region_elements element region)
