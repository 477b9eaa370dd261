-- What a read of a region of an array answers, chunk by chunk. What is read of a box of a chunk is given, by the value that is stored for the chunk.
use Rattle.std.specs.Prelude.{◌≡◌, ℕ, Option, List, [], ◌∷◌, Contains, map, replicate, Result, Ok, Err}
use Rattle.zarrs_array_bytes.specs.Held.{Held}
use Rattle.zarrs_array_bytes.specs.Update.{update}
use Rattle.zarrs_array_bytes.specs.Validity.{Holds}
use Rattle.zarrs_chunk.specs.Answer.{◌>>=◌, AnswersBy, memory_or_fault}
use Rattle.zarrs_chunk.specs.ChunkShape.{product}
use Rattle.zarrs_chunk.specs.Region.{Region}
use Rattle.zarrs_chunk.specs.declared.codec_error.CodecError.{CodecError}
use Rattle.zarrs_data_type.specs.Element.{Chunk, Element, absent}
use Rattle.zarrs_data_type.specs.ElementType.{ElementType}
use Rattle.zarrs_grid.specs.Parts.{box_in_chunk}
use Rattle.zarrs_grid.specs.RegionElements.{elements_of_part, places_in_chunk, region_elements}
use Rattle.zarrs_grid.specs.Touched.{FitsGrid, touched_chunks}
use Rattle.zarrs_array_plan.specs.ArrayForm.{ArrayForm}
use Rattle.zarrs_array_plan.specs.ChunkArrays.{element_by_chunks}
use Rattle.zarrs_array_plan.specs.ChunkKeys.{key_of}
use Rattle.zarrs_array_plan.specs.Joined.{region_fill}
use Rattle.zarrs_array_plan.specs.Planned.{checked_plan}

-- What is read of a box of a chunk, by the value that is stored for the chunk, or none: the elements, in row-major order, or the first error.
abbrev pub PartReads : Type 0
PartReads = Option (List ℕ) → Region → Result Chunk CodecError

-- what is read of the region's part in the chunk of these indices, where the keys have these values
abbrev pub region_part_read : PartReads → (List ℕ → Option (List ℕ)) → ArrayForm → Region → List ℕ → Result Chunk CodecError
region_part_read reads values form region numbers = reads (values (key_of form.keys numbers)) (box_in_chunk form.chunk_shape region numbers)

-- the error of the first part that can't be read, in their order; else none
abbrev pub all_read : {P : Type 0} → (P → Result Chunk CodecError) → List P → Result (Unit {0}) CodecError
all_read read [] = Ok tt
all_read read (part ∷ more) = read part >>= λ _. all_read read more

-- the elements that were read; none where there is an error
abbrev pub read_elements : Result Chunk CodecError → Chunk
read_elements (Ok chunk) = chunk
read_elements (Err _) = []

-- the chunk of these indices, as far as its part was read: it has the part's elements at their places, and no others
abbrev pub chunk_read : List ℕ → Region → (List ℕ → Result Chunk CodecError) → List ℕ → Chunk
chunk_read shape region read numbers =
    update (replicate (product shape) absent) (places_in_chunk shape region numbers) (read_elements (read numbers))

-- what is checked before a chunk is read, or the first error: the region lies inside the array, 64 bits count its elements, and the fill value fits the type
abbrev pub region_checked : ElementType → ArrayForm → Region → List ℕ → Result Chunk CodecError
region_checked type form region fill = do
  _ ← checked_plan form region
  region_fill type region fill

-- The elements of a region, in order, of the chunks as far as they were read; or the first error: of what is checked, and then chunk by chunk.
abbrev pub region_read : PartReads → (List ℕ → Option (List ℕ)) → ElementType → ArrayForm → Region → List ℕ → Result Chunk CodecError
region_read reads values type form region fill = do
  _ ← region_checked type form region fill
  _ ← all_read (region_part_read reads values form region) (touched_chunks form.chunk_shape region)
  Ok (region_elements (element_by_chunks form.chunk_shape (chunk_read form.chunk_shape region (region_part_read reads values form region))) region)

-- Each chunk that a region of the array's axes touches is read as the array has it: what is read of its part are the array's elements there.
abbrev pub ReadsArray : PartReads → (List ℕ → Option (List ℕ)) → ArrayForm → Region → (List ℕ → Element) → Type 0
ReadsArray reads values form region element =
    FitsGrid form.chunk_shape region → (numbers : List ℕ) → Contains (touched_chunks form.chunk_shape region) numbers
    → region_part_read reads values form region numbers ≡ Ok (elements_of_part element form.chunk_shape region numbers)

-- Of whatever array the chunks are read as, a container of its elements in the region is answered, in order, or the first error of what is checked. Only lack of memory or a failure of the store may come in its place.
abbrev pub AnswersRegion : PartReads → (List ℕ → Option (List ℕ)) → ElementType → ArrayForm → Region → List ℕ → Result Held CodecError → Type 0
AnswersRegion reads values type form region fill result =
    (element : List ℕ → Element) → ReadsArray reads values form region element
    → AnswersBy memory_or_fault (Holds type) result (region_checked type form region fill >>= λ _. Ok (region_elements element region))

-- the keys of the chunks that a region touches
abbrev pub touched_keys : ArrayForm → Region → List (List ℕ)
touched_keys form region = map (key_of form.keys) (touched_chunks form.chunk_shape region)

-- Calls that name these keys ask for no other: of two counts of how often each key was asked for, before the calls and after them, each other key has the same.
abbrev pub AsksAmong : List (List ℕ) → (before after : List ℕ → ℕ) → Type 0
AsksAmong keys before after = (other : List ℕ) → (Contains keys other → ⊥) → after other ≡ before other
