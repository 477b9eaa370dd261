-- A part that is read, and put among a region's elements.
use Rattle.std.specs.Prelude.{◌≡◌, ℕ, Option, List, [], ◌∷◌, All, map, string_bytes, IfOk, Result}
use Rattle.zarrs_array_bytes.specs.Held.{Held}
use Rattle.zarrs_chunk.specs.Answer.{AnswersBy, memory_or_fault}
use Rattle.zarrs_chunk.specs.Region.{Region}
use Rattle.zarrs_chunk.specs.declared.codec_error.CodecError.{CodecError}
use Rattle.zarrs_data_type.specs.Element.{Chunk, Element}
use Rattle.zarrs_data_type.specs.ElementType.{ElementType}
use Rattle.zarrs_grid.specs.RegionElements.{elements_of_part}
use Rattle.zarrs_grid.specs.declared.chunk_part.ChunkPart.{ChunkPart}
use Rattle.zarrs_array_plan.specs.Joined.{HoldsChunks, IsRegionPart}
use Rattle.zarrs_array_plan.specs.declared.planned_chunk.PlannedChunk.{PlannedChunk}
use Rattle.zarrs_region_reads.specs.RegionRead.{PartReads, all_read}

-- Of a container that holds a region's elements of some chunks, and what is read of a part, one is given that holds those of the part's chunk too, where the part is read as the array has it; or the error of the read. Only lack of memory or a failure of the store may come in its place.
abbrev pub JoinsRead : Result Chunk CodecError → ElementType → Region → ChunkPart → Held → Result Held CodecError → Type 0
JoinsRead read type region part answer result =
    let numbers = part.chunk.items in
    (element : List ℕ → Element) (chunk_shape : List ℕ) (chunks : List (List ℕ)) → IsRegionPart chunk_shape region part
    → HoldsChunks type element chunk_shape region chunks answer
    → IfOk read (λ chunk. chunk ≡ elements_of_part element chunk_shape region numbers)
    → AnswersBy memory_or_fault (λ joined _. HoldsChunks type element chunk_shape region (numbers ∷ chunks) joined) result read

-- what is read of the part of a planned chunk, where the keys have these values
abbrev pub planned_read : PartReads → (List ℕ → Option (List ℕ)) → PlannedChunk → Result Chunk CodecError
planned_read reads values it = reads (values (string_bytes it.key)) it.part.in_chunk

-- the indices of each of these planned chunks
abbrev pub planned_chunks : List PlannedChunk → List (List ℕ)
planned_chunks planned = map (λ it. it.part.chunk.items) planned

-- a planned chunk is read as the array has it, where it is read
abbrev pub IsReadAs : (List ℕ → Element) → List ℕ → Region → (PlannedChunk → Result Chunk CodecError) → PlannedChunk → Type 0
IsReadAs element chunk_shape region read it = IfOk (read it) (λ chunk. chunk ≡ elements_of_part element chunk_shape region it.part.chunk.items)

-- Of a container that holds a region's elements of no chunk yet, one is given that holds those of all planned chunks, which are read one after another as the array has them; or the first error of the reads. Only lack of memory or a failure of the store may come in its place.
abbrev pub JoinsReads : (PlannedChunk → Result Chunk CodecError) → ElementType → Region → List PlannedChunk → Held → Result Held CodecError → Type 0
JoinsReads read type region planned answer result =
    (element : List ℕ → Element) (chunk_shape : List ℕ) → All (λ it. IsRegionPart chunk_shape region it.part) planned
    → HoldsChunks type element chunk_shape region [] answer → All (IsReadAs element chunk_shape region read) planned
    → AnswersBy memory_or_fault (λ joined _. HoldsChunks type element chunk_shape region (planned_chunks planned) joined) result (all_read read planned)
